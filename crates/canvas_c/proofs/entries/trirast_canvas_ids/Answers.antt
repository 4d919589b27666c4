use Rattle.std.proofs.Common.{length}
use Rattle.std.proofs.lemmas.List.{map-id}
use Rattle.canvas_c.specs.Pieces.{entries_checks}
use Rattle.canvas_c.proofs.Ended.{done_if, status_is}
use Rattle.canvas_c.proofs.entries.trirast_canvas_ids.Goals as goal

pub returns-clause-written : goal.returns-clause-written
returns-clause-written c = done_if _ c.entries_into.result c.status_of.result c.status_of.ensures.done (simp map-id at c.entries_into.ensures.written)

pub returns-clause-status : goal.returns-clause-status
returns-clause-status c = status_is (entries_checks c.args.canvas.now.head (length c.args.canvas.now.planes.now) c.args.sample 4 c.args.stride (length c.args.ids.now)) c.entries_into.result c.status_of.result c.entries_into.ensures.judged c.status_of.ensures.ended
