use Rattle.std.proofs.Common.{length}
use Rattle.canvas_c.specs.Samples.{tile_store_checks}
use Rattle.canvas_c.proofs.Ended.{done_if, status_is}
use Rattle.canvas_c.proofs.tiles.trirast_canvas_tile_store.Goals as goal

pub returns-clause-status : goal.returns-clause-status
returns-clause-status c =
    status_is (tile_store_checks c.args.canvas.now.head (length c.args.canvas.now.planes.now) c.args.column c.args.row (length c.args.colours.now)) c.store_in_tile.result c.status_of.result c.store_in_tile.ensures.judged c.status_of.ensures.ended

pub returns-clause-stored : goal.returns-clause-stored
returns-clause-stored c = done_if _ c.store_in_tile.result c.status_of.result c.status_of.ensures.done c.store_in_tile.ensures.stored
