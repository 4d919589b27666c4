use Rattle.std.proofs.Common.{length}
use Rattle.canvas_c.specs.Pieces.{piece_checks}
use Rattle.canvas_c.proofs.Ended.{done_if, status_is}
use Rattle.canvas_c.proofs.cleared.trirast_proved_canvas_clear.Goals as goal

pub returns-clause-cleared : goal.returns-clause-cleared
returns-clause-cleared c = done_if _ c.clear_into.result c.status_of.result c.status_of.ensures.done c.clear_into.ensures.cleared

pub returns-clause-status : goal.returns-clause-status
returns-clause-status c = status_is (piece_checks c.args.canvas.now.head (length c.args.canvas.now.planes.now)) c.clear_into.result c.status_of.result c.clear_into.ensures.judged c.status_of.ensures.ended

pub returns-clause-uniform : goal.returns-clause-uniform
returns-clause-uniform c = done_if _ c.clear_into.result c.status_of.result c.status_of.ensures.done c.clear_into.ensures.uniform
