use Rattle.std.specs.Prelude.{length}
use Rattle.draw_list.specs.declared.draw_list.DrawList.TheInside.{Inside}
use Rattle.draw_list.specs.Listing.{Listing, listing_on, scene_of, IsListingWithinLimits}
use Rattle.draw_list.specs.Rows.{AreRows}
use Rattle.draw_list.specs.Starts.{AreStarts, AreOwners}

-- What a draw list in memory holds.
abbrev pub listing : Inside → Listing
listing l = listing_on l.target l.draws.items

-- What each draw list in memory keeps: its limits, and what look-ups need. For these it has the start of each draw, the draw of
-- every sixteenth triangle, and the rows of each triangle.
pub record IsKept (l : Inside) : Type 0 where
  pub limits : IsListingWithinLimits (listing l)
  pub starts : AreStarts l.draws.items l.starts.items
  pub owners : AreOwners l.starts.items (length (scene_of (listing l)).triangles) l.owners.items
  pub rows : AreRows (scene_of (listing l)).triangles l.rows.items
