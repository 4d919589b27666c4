use Rattle.std.proofs.Common.{length}
use Rattle.canvas_c.specs.Pieces.{image_checks}
use Rattle.canvas_c.proofs.Ended.{done_if, status_is}
use Rattle.canvas_c.proofs.images.trirast_canvas_load.Goals as goal

pub returns-clause-loaded : goal.returns-clause-loaded
returns-clause-loaded c = done_if _ c.load_into.result c.status_of.result c.status_of.ensures.done c.load_into.ensures.loaded

pub returns-clause-status : goal.returns-clause-status
returns-clause-status c = status_is (image_checks c.args.canvas.now.head (length c.args.canvas.now.planes.now) c.args.format c.args.stride (length c.args.pixels.now)) c.load_into.result c.status_of.result c.load_into.ensures.judged c.status_of.ensures.ended
