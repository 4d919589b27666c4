use Rattle.std.proofs.Common.{arith}
use Rattle.shade.specs.Canvas.{IsCanvasDrawnAt}
use Rattle.lanes.proofs.BlockPlanes.{none_done, and_plane}
use Rattle.lanes.proofs.one_by_one.draw_each.Goals as goal

pub draw_plane_each-requires-clause-covered : goal.draw_plane_each-requires-clause-covered
draw_plane_each-requires-clause-covered c = rw c.first.ensures.value (c.requires.covered c.loop-s.s (omega (arith, c.part_size-s-end.ensures, c.loop-s-test.true)))

pub loop-s-init : goal.loop-s-init
loop-s-init c = none_done (IsCanvasDrawnAt c.args.triangle.now) c.args.mask.now c.args.samples.now

pub loop-s-preserved : goal.loop-s-preserved
loop-s-preserved c =
    and_plane (IsCanvasDrawnAt c.args.triangle.now) c.args.mask.now c.args.samples.now c.loop-s.samples c.loop-s.s c.loop-s.invariant c.draw_plane_each.new.samples
    (omega (arith, c.requires.samples, c.part_size-s-end.ensures, c.loop-s-test.true)) (rw c.first.ensures.value at c.draw_plane_each.ensures)

pub returns-clause-drawn : goal.returns-clause-drawn
returns-clause-drawn c s l = c.loop-s.invariant.done s (omega (arith, c.part_size-s-end.ensures, c.loop-s-test.false))
