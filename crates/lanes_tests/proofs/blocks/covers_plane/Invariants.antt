use Rattle.std.proofs.Common.{ℕ, ◌<◌, IsBitSet}
use Rattle.grid.specs.Triangle.{Covers}
use Rattle.gradients.specs.Group.{position_in}
use Rattle.lanes_tests.proofs.blocks.covers_plane.Given as goal

abbrev pub invariant-loop-k : goal.invariant-loop-k
invariant-loop-k l = (j : ℕ) → j < l.k → IsBitSet l.mask j → Covers l.t.a l.t.b l.t.c (position_in l.p j)
