use Rattle.std.proofs.Common.{◌≡◌, ◌+◌, ◌*◌, arith, subst}
use Rattle.shade.specs.Canvas.{IsCanvasDrawnAt}
use Rattle.lanes.proofs.Blocks.{IsDrawnBefore, and_next}
use Rattle.lanes.proofs.one_by_one.draw_plane_each.Goals as goal

pub loop-group-preserved : goal.loop-group-preserved
loop-group-preserved c =
    let next : 16 * c.loop-group.group + 16 ≡ 16 * (c.loop-group.group + 1) = omega arith in
    subst (IsDrawnBefore (IsCanvasDrawnAt c.args.triangle.now) c.args.p c.args.mask _ _) next
    (and_next (IsCanvasDrawnAt c.args.triangle.now) c.args.p c.args.mask _ _ _ (16 * c.loop-group.group) 16 (omega arith) c.loop-group.invariant c.draw_rows_each.ensures)
