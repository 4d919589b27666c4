use Rattle.std.proofs.Common.{ℕ, ◌<◌, IsBitSet, slice_index}
use Rattle.grid.specs.Triangle.{Covers}
use Rattle.gradients.specs.Group.{position_in}
use Rattle.lanes.specs.BlockMask.{first_of}
use Rattle.lanes_tests.proofs.blocks.covers_mask.Given as goal

abbrev pub invariant-loop-s : goal.invariant-loop-s
invariant-loop-s l =
    (s : ℕ) → s < l.s → (k : ℕ) → k < 64 → IsBitSet (slice_index l.mask.plane s) k → Covers l.t.a l.t.b l.t.c (position_in (first_of l.mask s) k)
