use Rattle.std.proofs.Common.{length}
use Rattle.canvas_c.specs.Samples.{colours_checks}
use Rattle.canvas_c.proofs.Ended.{done_if, status_is}
use Rattle.canvas_c.proofs.sample_colours.trirast_canvas_store.Goals as goal

pub returns-clause-status : goal.returns-clause-status
returns-clause-status c =
    status_is (colours_checks c.args.canvas.now.head (length c.args.canvas.now.planes.now) c.args.sample c.args.format c.args.stride (length c.args.pixels.now)) c.store_into.result c.status_of.result c.store_into.ensures.judged c.status_of.ensures.ended

pub returns-clause-stored : goal.returns-clause-stored
returns-clause-stored c = done_if _ c.store_into.result c.status_of.result c.status_of.ensures.done c.store_into.ensures.stored
