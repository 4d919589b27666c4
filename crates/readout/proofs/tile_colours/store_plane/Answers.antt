use Rattle.std.proofs.Common.{◌≡◌, ◌∙◌, inl, inr, subst, ℕ, slice_index, arith}
use Rattle.std.proofs.lemmas.Bool.{cases_lt}
use Rattle.lanes.specs.Block.{stored_at}
use Rattle.readout.specs.Tiles.{with_colour}
use Rattle.readout.proofs.TileEntries.{in_channels}
use Rattle.readout.proofs.tile_colours.store_plane.Goals as goal

pub loop-k-preserved : goal.loop-k-preserved
loop-k-preserved c =
    let k : ℕ = c.loop-k.k in
    let old = c.args.plane.now in
    let colours = c.args.colours.now in
    let rgb = c.channels-r.ensures in
    record {
      stored = λ n l. elim (cases_lt n k) [
        | inl less ↦ c.set_colour.ensures.kept n (omega (arith, less, c.loop-k-test.true)) (λ e. omega (arith, e, less)) ∙ c.loop-k.invariant.stored n less
        | inr more ↦
            let here : k ≡ n = omega (arith, l, more) in
            subst (λ m. stored_at c.set_colour.new.plane m ≡ with_colour (slice_index colours m) (stored_at old m)) here
            (c.set_colour.ensures.stored ∙ in_channels _ _ _ (slice_index colours k) (stored_at c.loop-k.plane k) (stored_at old k) rgb.0 rgb.1 rgb.2 (c.loop-k.invariant.kept k (omega arith) (omega (arith, c.loop-k-test.true))))
      ];
      kept = λ n h l. c.set_colour.ensures.kept n l (λ e. omega (arith, e, h)) ∙ c.loop-k.invariant.kept n (omega (arith, h)) l;
    }
