use Rattle.std.proofs.Common.{below_more, arith}
use Rattle.lanes_tests.proofs.blocks.covers_mask.Goals as goal

pub loop-s-preserved : goal.loop-s-preserved
loop-s-preserved c = below_more _ _ c.loop-s.invariant (rw c.first.ensures.value at (c.covers_plane.ensures c.if-not-covers_plane.false))

pub returns : goal.returns
returns c reported s l = c.loop-s.invariant s (omega (arith, c.part_size-s-end.ensures, c.loop-s-test.false))
