use Rattle.std.proofs.Common.{◌≡◌, ◌≤◌, map, sum_by}
use Rattle.list_json.specs.Denotes.{IsDraw}
use Rattle.draw_list.specs.Primitives.{count_of_triangles}
use Rattle.draw_list.specs.Listing.{draw_listing}
use Rattle.checking_reader.proofs.Draws.{DrawsPassed}
use Rattle.checking_reader.proofs.ArrayElements.{Continues}
use Rattle.checking_reader.proofs.Reached.{AllPassedTo}
use Rattle.checking_reader.proofs.reader.draws_of.Given as goal

abbrev pub invariant-loop-number : goal.invariant-loop-number
invariant-loop-number l = record {
  passed : DrawsPassed l.list l.number l.earlier;
  before : AllPassedTo l.list l.number l.earlier;
  read : Continues (IsDraw l.picture) l.list l.number (map draw_listing l.found.items);
  counted : l.earlier ≡ sum_by (λ d. count_of_triangles d.primitives) (map draw_listing l.found.items);
  room : l.earlier ≤ 65536;
}
