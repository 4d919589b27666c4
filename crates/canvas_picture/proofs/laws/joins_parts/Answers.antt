use Rattle.canvas_picture.proofs.PartChanges.{joined_loaded, joined_stored, ids_above, ids_below, colours_above, colours_below}
use Rattle.canvas_picture.proofs.Parts.{joined_cleared, joined_drawn, joined_resolved, joined_entries}
use Rattle.canvas_picture.proofs.laws.joins_parts.Goals as goal

pub returns-clause-cleared : goal.returns-clause-cleared
returns-clause-cleared c = λ canvas first at end sample xs ys upper above below. joined_cleared canvas first at end sample xs ys upper above below

pub returns-clause-drawn : goal.returns-clause-drawn
returns-clause-drawn c = λ ts canvas first at end xs ys new new' upper upper' above below. joined_drawn ts canvas first at end xs ys new new' upper upper' above below

pub returns-clause-resolved : goal.returns-clause-resolved
returns-clause-resolved c = λ canvas first at end xs ys old new old' new' format stride upper rows rows' above below.
    joined_resolved canvas first at end xs ys upper old new old' new' format stride rows rows' above below

pub returns-clause-entries : goal.returns-clause-entries
returns-clause-entries c = λ entry canvas first at end s xs ys old new old' new' stride upper small rows rows' above below.
    joined_entries canvas first at end xs ys upper old new old' new' entry s stride small rows rows' above below

pub returns-clause-loaded : goal.returns-clause-loaded
returns-clause-loaded c = λ canvas first at end xs ys new new' bytes bytes' format stride too upper upper' rows above below.
    joined_loaded canvas first at end xs ys new new' bytes bytes' format stride too upper upper' rows above below

pub returns-clause-stored : goal.returns-clause-stored
returns-clause-stored c = λ canvas first at end s xs ys new new' bytes bytes' format stride too upper upper' rows above below.
    joined_stored canvas first at end s xs ys new new' bytes bytes' format stride too upper upper' rows above below

pub returns-clause-tile_ids : goal.returns-clause-tile_ids
returns-clause-tile_ids c = λ canvas first at end column row xs ys ids upper.
    (ids_above canvas first at end column row xs ys ids upper, ids_below canvas first at end column row xs ys ids upper)

pub returns-clause-tile_colours : goal.returns-clause-tile_colours
returns-clause-tile_colours c = λ canvas first at end column row entries xs ys new new' upper upper'.
    (colours_above canvas first at end column row entries xs ys new upper upper', colours_below canvas first at end column row entries xs ys new' upper)
