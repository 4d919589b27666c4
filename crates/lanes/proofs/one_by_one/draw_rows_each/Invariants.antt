use Rattle.std.proofs.Common.{◌*◌}
use Rattle.shade.specs.Canvas.{IsCanvasDrawnAt}
use Rattle.lanes.specs.Block.{AreDrawn}
use Rattle.lanes.proofs.one_by_one.draw_rows_each.Given as goal

abbrev pub invariant-loop-i : goal.invariant-loop-i
invariant-loop-i l = AreDrawn (IsCanvasDrawnAt l.triangle) l.p l.mask l.fn.samples l.samples (16 * l.group) l.i
