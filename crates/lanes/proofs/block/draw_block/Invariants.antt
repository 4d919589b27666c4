use Rattle.std.proofs.Common.{◌*◌}
use Rattle.lanes.specs.Sources.{TakesGiven}
use Rattle.lanes.proofs.Blocks.{IsDrawnBefore}
use Rattle.lanes.proofs.block.draw_block.Given as goal

abbrev pub invariant-loop-group : goal.invariant-loop-group
invariant-loop-group g l = IsDrawnBefore (TakesGiven l.merge l.depth l.colour) l.p l.mask l.fn.samples l.samples (16 * l.group)
