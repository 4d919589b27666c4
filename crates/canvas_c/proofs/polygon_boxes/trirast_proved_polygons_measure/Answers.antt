use Rattle.std.proofs.Common.{length}
use Rattle.canvas_c.specs.PolygonChecks.{measure_checks, IsFirstOfArrays}
use Rattle.canvas_c.proofs.Ended.{done_if, kept_but, report_is}
use Rattle.canvas_c.proofs.polygon_boxes.trirast_proved_polygons_measure.Goals as goal

pub returns-clause-measured : goal.returns-clause-measured
returns-clause-measured c = done_if _ c.measure_into.result c.report.result c.report.ensures.done c.measure_into.ensures.measured

pub returns-clause-report : goal.returns-clause-report
returns-clause-report c =
    report_is (measure_checks c.args.polygons.now (length c.args.boxes.now)) (IsFirstOfArrays c.args.polygons.now) c.measure_into.result c.report.result _ c.measure_into.ensures.judged c.report.ensures.reported

pub returns-clause-kept : goal.returns-clause-kept
returns-clause-kept c = kept_but _ c.measure_into.result c.report.result _ c.report.ensures.reported c.measure_into.ensures.kept
