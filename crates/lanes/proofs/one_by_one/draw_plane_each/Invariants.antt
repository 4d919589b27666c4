use Rattle.std.proofs.Common.{◌*◌}
use Rattle.shade.specs.Canvas.{IsCanvasDrawnAt}
use Rattle.lanes.proofs.Blocks.{IsDrawnBefore}
use Rattle.lanes.proofs.one_by_one.draw_plane_each.Given as goal

abbrev pub invariant-loop-group : goal.invariant-loop-group
invariant-loop-group l = IsDrawnBefore (IsCanvasDrawnAt l.triangle) l.p l.mask l.fn.samples l.samples (16 * l.group)
