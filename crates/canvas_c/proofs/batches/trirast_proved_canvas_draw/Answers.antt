use Rattle.std.proofs.Common.{length, None}
use Rattle.canvas_c.specs.Batches.{draw_call_checks, IsFirstOfBatch}
use Rattle.canvas_c.proofs.Ended.{done_if, report_is}
use Rattle.canvas_c.proofs.batches.trirast_proved_canvas_draw.Goals as goal

pub returns-clause-drawn : goal.returns-clause-drawn
returns-clause-drawn c = done_if _ c.draw_into.result c.report.result c.report.ensures.done c.draw_into.ensures.drawn

pub returns-clause-report : goal.returns-clause-report
returns-clause-report c = report_is (draw_call_checks c.args.canvas.now.head (length c.args.canvas.now.planes.now) None c.args.batch.now) (IsFirstOfBatch c.args.canvas.now.head None c.args.batch.now) c.draw_into.result c.report.result _ c.draw_into.ensures.judged c.report.ensures.reported
