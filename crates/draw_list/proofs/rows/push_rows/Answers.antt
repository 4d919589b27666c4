use Rattle.std.proofs.Common.{◌≡◌, ◌<◌, ◌∙◌, sym, get_or, [], length, arith}
use Rattle.std.proofs.lemmas.List.{length-map, get_or-map}
use Rattle.draw_list.specs.Primitives.{primitive_listing, triangles_of}
use Rattle.draw_list.specs.Listing.{draw_listing, placed, placed_all}
use Rattle.draw_list.proofs.Triangulated.{length-triangles_of}
use Rattle.draw_list.proofs.Spans.{rows_more}
use Rattle.draw_list.proofs.rows.push_rows.Goals as goal

pub loop-number-preserved : goal.loop-number-preserved
loop-number-preserved c = λ before h.
    let d = draw_listing c.args.draw.now in
    let primitives = primitive_listing c.args.draw.now.primitives in
    let triangles = triangles_of primitives in
    let t = c.triangle.result in
    let number = c.loop-number.number in
    let within : number < length triangles = omega (arith, length-triangles_of primitives, c.triangles-triangles.ensures.value) in
    let is : get_or (placed_all d) number t ≡ t = get_or-map (placed d) triangles number [] t within ∙ sym c.triangle.ensures in
    rw c.in_ok-push.ensures.items (rows_more before (placed_all d) _ number t c.of.result (rw length-map within) is c.of.ensures (c.loop-number.invariant before h))
