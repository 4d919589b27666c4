use Rattle.lanes.specs.Sources.{TakesGiven}
use Rattle.lanes.proofs.BlockPlanes.{AreDoneBefore}
use Rattle.lanes.proofs.block.draw_planes.Given as goal

abbrev pub invariant-loop-s : goal.invariant-loop-s
invariant-loop-s g l = AreDoneBefore (TakesGiven l.merge l.depth l.colour) l.mask l.fn.samples l.samples l.s
