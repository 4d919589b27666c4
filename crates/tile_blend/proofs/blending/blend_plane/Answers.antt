use Rattle.std.proofs.Common.{refl, sym, subst, ℕ, ◌+◌, ◌<◌, arith}
use Rattle.shade.specs.Canvas.{IsCanvasApplied}
use Rattle.lanes.specs.Block.{stored_at}
use Rattle.lanes.proofs.LaneNumbers.{is_one, is_set}
use Rattle.tile_blend.specs.Fragments.{fragment_at}
use Rattle.tile_blend.proofs.Planes.{AreSamplesChanged, one_sample}
use Rattle.tile_blend.proofs.Numbered.{TakesFrom}
use Rattle.tile_blend.proofs.blending.blend_plane.Goals.{then-mask-k-eq1, else-mask-k-eq1}
use Rattle.tile_blend.proofs.blending.blend_plane.Goals as goal

pub loop-k-preserved : goal.loop-k-preserved
loop-k-preserved c =
    let k : ℕ = c.loop-k.k in
    let small : k < 64 = omega (arith, c.loop-k-test.true) in
    let m = c.args.merge.now in
    let colours = c.args.fragments.now.colours.now in
    let depths = c.args.fragments.now.depths.now in
    let mask : ℕ = c.args.mask in
    let from : ℕ = c.args.from in
    let old = c.args.plane.now in
    let middle = c.loop-k.plane in
    elim c.if-mask-k-eq1.branch [
      | then-mask-k-eq1 w ↦
          let applied : IsCanvasApplied m (fragment_at colours depths (from + k)) (stored_at middle k) (stored_at w.set.new.self k) =
          rw w.set.ensures.stored (subst (λ f. IsCanvasApplied m f (stored_at middle k) w.apply_on_canvas.result) w.fragment.ensures (subst (λ s. IsCanvasApplied m w.fragment.result s w.apply_on_canvas.result) w.sample-stored.ensures w.apply_on_canvas.ensures)) in
          subst (λ s. AreSamplesChanged (TakesFrom m colours depths mask from) (k + 1) old s) (sym w.plane-is)
          (one_sample (TakesFrom m colours depths mask from) k old middle w.set.new.self small w.set.ensures.kept
          (record { taken = λ _. applied; left = λ clear. absurd (clear (is_set mask k w.if-mask-k-eq1.true)) }) c.loop-k.invariant)
      | else-mask-k-eq1 w ↦
          subst (λ s. AreSamplesChanged (TakesFrom m colours depths mask from) (k + 1) old s) (sym w.plane-is)
          (one_sample (TakesFrom m colours depths mask from) k old middle middle small (λ _ _ _. refl)
          (record { taken = λ set. absurd (w.if-mask-k-eq1.false (is_one mask k set)); left = λ _. refl }) c.loop-k.invariant)
    ]
