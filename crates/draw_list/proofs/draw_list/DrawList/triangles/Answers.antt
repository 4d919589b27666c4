use Rattle.std.proofs.Common.{◌≡◌, length, arith}
use Rattle.draw_list.specs.Listing.{scene_of}
use Rattle.draw_list.specs.View.{listing}
use Rattle.draw_list.proofs.Numbering.{length-triangles, most_triangles}
use Rattle.draw_list.proofs.Spans.{length-rows}
use Rattle.draw_list.proofs.draw_list.DrawList.triangles.Goals as goal

counted : (c : goal.After-len) → c.len.result ≡ length (scene_of (listing c.self.inside)).triangles
counted c = omega (arith, length-rows _ _ c.self.invariant.rows, c.self.inside.rows.ok.0)

pub returns-clause-value : goal.returns-clause-value
returns-clause-value c = rw (← c.self.view_is) (counted c)

pub returns-clause-greatest : goal.returns-clause-greatest
returns-clause-greatest c =
    let draws = c.self.inside.draws.items in
    omega (arith, counted c, length-triangles draws, most_triangles draws c.self.invariant.limits.draws.triangles)
