use Rattle.std.proofs.Common.{take, map}
use Rattle.std.specs.List.{flat_map}
use Rattle.draw_list.specs.Listing.{draw_listing, placed_all}
use Rattle.draw_list.specs.Rows.{AreRows}
use Rattle.draw_list.proofs.rows.rows_of.Given as goal

abbrev pub invariant-loop-draw : goal.invariant-loop-draw
invariant-loop-draw l = AreRows (flat_map placed_all (take l.draw-index (map draw_listing l.draws))) l.spans.items
