use Rattle.std.proofs.Common.{◌++◌, List, take}
use Rattle.shade.specs.declared.placed.Placed.{Placed}
use Rattle.draw_list.specs.Listing.{draw_listing, placed_all}
use Rattle.draw_list.specs.Rows.{AreRows}
use Rattle.draw_list.proofs.rows.push_rows.Given as goal

abbrev pub invariant-loop-number : goal.invariant-loop-number
invariant-loop-number l =
    (before : List Placed) → AreRows before l.initial.spans.items → AreRows (before ++ take l.number (placed_all (draw_listing l.draw))) l.spans.items
