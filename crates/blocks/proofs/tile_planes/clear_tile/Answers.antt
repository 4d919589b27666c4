use Rattle.std.proofs.Common.{rules, ◌≡◌, ◌∙◌, ap, sym, ℕ, ◌<◌, length, slice_set, arith}
use Rattle.std.proofs.lemmas.List.{get_or-set_other}
use Rattle.grid.specs.Samples.{count_of}
use Rattle.shade.specs.Canvas.{with_alpha}
use Rattle.shade.proofs.Resolved.{some_samples}
use Rattle.lanes.specs.declared.block_samples.BlockSamples.{BlockSamples}
use Rattle.blocks.specs.declared.way.Way.TheVariants.{Cleared}
use Rattle.blocks.specs.Layout.{way_of, stored_in_tile, id_of}
use Rattle.blocks.proofs.Places.{none}
use Rattle.blocks.proofs.TilePlanes.{way_set}
use Rattle.blocks.proofs.tile_planes.clear_tile.Goals as goal

pub returns-clause-uniform : goal.returns-clause-uniform
returns-clause-uniform c =
    let count = c.args.count in
    let marked = slice_set c.args.samples.now 0 c.all_cleared.result in
    let new = slice_set marked 1 c.filled.result in
    let some : 0 < length c.args.samples.now = omega (arith, c.requires) in
    let same : (i j s : ℕ) → s < count_of count → stored_in_tile count new i j s ≡ with_alpha c.args.sample c.args.alpha = λ i j s h. search rules in
    record {
      cleared = λ k l.
          ap (λ (p : BlockSamples). way_of p k) (get_or-set_other marked 1 0 c.filled.result none (λ e. omega (arith, e)))
          ∙ way_set c.args.samples.now c.all_cleared.result k Cleared some (c.all_cleared.ensures k l);
      one = λ i j s h. ap id_of (same i j s h ∙ sym (same 0 0 0 (some_samples count)));
    }
