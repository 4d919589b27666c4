use Rattle.std.proofs.Common.{◌<◌, length, arith}
use Rattle.draw_list.specs.Listing.{scene_of}
use Rattle.draw_list.specs.View.{listing}
use Rattle.draw_list.proofs.Spans.{length-rows, rows_at}
use Rattle.draw_list.proofs.draw_list.DrawList.rows.Goals as goal

pub index-requires : goal.index-requires
index-requires c =
    let within : c.args.number < length (scene_of (listing c.self.inside)).triangles = rw (← c.self.view_is) at c.requires in
    omega (arith, length-rows _ _ c.self.invariant.rows, c.self.inside.rows.ok.0)

pub returns : goal.returns
returns c =
    let found = rows_at _ c.self.inside.rows.items c.args.number c.index.result.now c.self.invariant.rows in
    rw (← c.self.view_is) (rw (← c.index.ensures) at found)
