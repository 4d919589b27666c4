use Rattle.std.proofs.Common.{◌≡◌, ℕ, ◌<◌}
use Rattle.blocks.specs.declared.way.Way.TheVariants.{Own}
use Rattle.blocks.specs.Layout.{way_in_tile, IsSameTile}
use Rattle.blocks.proofs.tile_planes.fill_tile.Given as goal

abbrev pub invariant-loop-k : goal.invariant-loop-k
invariant-loop-k l = record {
  own : (m : ℕ) → m < l.k → way_in_tile l.samples m ≡ Own;
  kept : IsSameTile l.fn.count l.fn.samples l.samples;
}
