use Rattle.shade.specs.Canvas.{IsCanvasDrawnAt}
use Rattle.lanes.proofs.BlockPlanes.{AreDoneBefore}
use Rattle.lanes.proofs.one_by_one.draw_each.Given as goal

abbrev pub invariant-loop-s : goal.invariant-loop-s
invariant-loop-s l = AreDoneBefore (IsCanvasDrawnAt l.triangle) l.mask l.fn.samples l.samples l.s
