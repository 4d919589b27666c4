use Rattle.std.proofs.Common.{length, None}
use Rattle.canvas_c.specs.PolygonChecks.{polygons_checks, IsFirstOfPolygons}
use Rattle.canvas_c.proofs.Ended.{done_if, report_is}
use Rattle.canvas_c.proofs.polygon_batches.trirast_proved_canvas_draw_polygons.Goals as goal

pub returns-clause-drawn : goal.returns-clause-drawn
returns-clause-drawn c = done_if _ c.draw_into.result c.report.result c.report.ensures.done c.draw_into.ensures.drawn

pub returns-clause-report : goal.returns-clause-report
returns-clause-report c =
    report_is (polygons_checks c.args.canvas.now.head (length c.args.canvas.now.planes.now) None c.args.polygons.now (length c.args.flags.now) (length c.args.counters.now)) (IsFirstOfPolygons None c.args.polygons.now) c.draw_into.result c.report.result _ c.draw_into.ensures.judged c.report.ensures.reported

pub returns-clause-zeros : goal.returns-clause-zeros
returns-clause-zeros c = done_if _ c.draw_into.result c.report.result c.report.ensures.done c.draw_into.ensures.zeros
