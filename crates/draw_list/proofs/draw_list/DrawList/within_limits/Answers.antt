use Rattle.std.proofs.Common.{◌≡◌, length, arith}
use Rattle.draw_list.specs.Listing.{listing_on, scene_of}
use Rattle.draw_list.proofs.Numbering.{length-triangles, most_triangles}
use Rattle.draw_list.proofs.Spans.{length-rows}
use Rattle.draw_list.proofs.Starting.{ascending}
use Rattle.draw_list.proofs.draw_list.DrawList.within_limits.Goals as goal

pub owners_of-requires-clause-many : goal.owners_of-requires-clause-many
owners_of-requires-clause-many c =
    let rows = rw c.deref-2.ensures.value at c.in_ok-rows.ensures in
    omega (arith, most_triangles c.args.draws.items c.requires.draws.triangles, length-triangles c.args.draws.items, length-rows _ _ rows, c.len.ensures, c.in_ok-rows.rows.ok.0)

pub owners_of-requires-clause-ascending : goal.owners_of-requires-clause-ascending
owners_of-requires-clause-ascending c = rw c.deref-3.ensures.value (ascending _ _ c.in_ok-starts.ensures)

pub invariant_of-result : goal.invariant_of-result
invariant_of-result c =
    let rows = rw c.deref-2.ensures.value at c.in_ok-rows.ensures in
    let owners = rw c.deref-3.ensures.value at c.in_ok-owners.ensures in
    let many : c.len.result ≡ length (scene_of (listing_on c.args.target c.args.draws.items)).triangles = omega (arith, length-rows _ _ rows, c.len.ensures, c.in_ok-rows.rows.ok.0) in
    record {
      limits = c.requires;
      starts = rw c.deref.ensures.value at c.in_ok-starts.ensures;
      owners = rw (← many) owners;
      rows = rows;
    }
