use Rattle.std.proofs.Common.{length}
use Rattle.canvas_c.specs.Samples.{tile_blend_checks}
use Rattle.canvas_c.proofs.Ended.{done_if, status_is}
use Rattle.canvas_c.proofs.tile_blends.trirast_canvas_tile_blend.Goals as goal

pub returns-clause-status : goal.returns-clause-status
returns-clause-status c =
    let a = c.args in
    status_is (tile_blend_checks a.canvas.now.head (length a.canvas.now.planes.now) a.column a.row a.state.now (length a.colours.now) (length a.depths.now) (length a.kept.now)) c.blend_in_tile.result c.status_of.result c.blend_in_tile.ensures.judged c.status_of.ensures.ended

pub returns-clause-blended : goal.returns-clause-blended
returns-clause-blended c = done_if _ c.blend_in_tile.result c.status_of.result c.status_of.ensures.done c.blend_in_tile.ensures.blended
