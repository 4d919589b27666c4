use Rattle.std.proofs.Common.{◌≡◌, ℕ, ◌<◌, ◌≤◌, slice_index}
use Rattle.lanes.specs.Block.{stored_at}
use Rattle.readout.specs.Tiles.{with_colour}
use Rattle.readout.proofs.tile_colours.store_plane.Given as goal

abbrev pub invariant-loop-k : goal.invariant-loop-k
invariant-loop-k l = record {
  stored : (n : ℕ) → n < l.k → stored_at l.plane n ≡ with_colour (slice_index l.colours n) (stored_at l.fn.plane n);
  kept : (n : ℕ) → l.k ≤ n → n < 64 → stored_at l.plane n ≡ stored_at l.fn.plane n;
}
