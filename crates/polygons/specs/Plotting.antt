-- What edges add to the cells of a strip.
use Rattle.std.specs.Prelude.{◌≡◌, ℕ, ◌*◌, ◌^◌, ◌<◌, ◌≤◌, ℤ, pos, ◌+ℤ◌, ◌≤ℤ◌, ◌<ℤ◌, Bool, List, length, slice_index_or}
use Rattle.grid.specs.Bounds.{IsWithin}
use Rattle.grid.specs.Position.{Position}
use Rattle.grid.specs.Samples.{parts_of}
use Rattle.polygons.specs.declared.cells.Cells.{Cells}
use Rattle.polygons.specs.declared.rings.Rings.{Rings}
use Rattle.polygons.specs.declared.strip.Strip.{Strip}
use Rattle.polygons.specs.declared.rule.Rule.{Rule}
use Rattle.polygons.specs.Cells.{part_columns, columns_in, modulus, running_sum, signed, AreMarked, IsAlike, IsPlotted}
use Rattle.polygons.specs.Crossing.{winding}
use Rattle.polygons.specs.Polygon.{polygon_edges}
use Rattle.polygons.specs.Rings.{rings_from}
use Rattle.polygons.specs.Rows.{from_column}

-- The columns of four samples.
abbrev pub AreNearColumns : List ℤ → Type 0
AreNearColumns columns = (s : ℕ) → s < 4 → IsWithin (2 ^ 52) (slice_index_or columns s (pos 0))

-- The rows of sample s, from one to before another, hold this row.
abbrev pub HasRow : List ℤ → List ℤ → ℕ → ℕ → Type 0
HasRow from to row s = (slice_index_or from s (pos 0) ≤ℤ pos row) × (pos row <ℤ slice_index_or to s (pos 0))

-- An edge was counted in a row by those of the first n samples of a part whose rows hold it, each from its column on.
pub record IsRowCounted (rule : Rule) (n row : ℕ) (columns from to : List ℤ) (down : Bool) (flags counters flags' counters' : List (List ℕ)) : Type 0 where
  pub flags_len : length flags' ≡ length flags
  pub counters_len : length counters' ≡ length counters
  pub here : (s k : ℕ) → s < n → HasRow from to row s → k < 8 * columns_in rule flags counters
      → IsAlike (modulus rule) (running_sum rule flags' counters' s row k) (running_sum rule flags counters s row k +ℤ signed down (from_column (slice_index_or columns s (pos 0)) (pos 1) k))
  pub others : (s j k : ℕ) → s < 4 → j < 64 → k < 8 * columns_in rule flags counters → (s < n → HasRow from to row s → j ≡ row → ⊥) → running_sum rule flags' counters' s j k ≡ running_sum rule flags counters s j k
  pub marked : AreMarked rule flags counters → AreMarked rule flags' counters'

-- Each part of a strip's samples has its columns of flags, and by the nonzero rule of counters.
pub record HasParts (strip : Strip) (cells : Cells) : Type 0 where
  pub flags : parts_of strip.count * cells.flagged ≤ length cells.flags.now
  pub counters : parts_of strip.count * cells.counted ≤ length cells.counters.now

-- The cells are the same memory with the same parts, and count by the same rule.
pub record AreSame (old new : Cells) : Type 0 where
  pub rule : new.rule ≡ old.rule
  pub columns : new.columns ≡ old.columns
  pub flagged : new.flagged ≡ old.flagged
  pub counted : new.counted ≡ old.counted
  pub flags : new.flags.ghost_name ≡ old.flags.ghost_name
  pub counters : new.counters.ghost_name ≡ old.counters.ghost_name
  pub flags_len : length new.flags.now ≡ length old.flags.now
  pub counters_len : length new.counters.now ≡ length old.counters.now

-- To the sums at each sample of a part of the cells a number was added, which depends on where the sample lies.
abbrev pub IsPlottedIn : Strip → (Position → ℤ) → Cells → Cells → ℕ → Type 0
IsPlottedIn strip change old new part =
    IsPlotted old.rule strip part change (part_columns old.flags.now old.flagged part) (part_columns old.counters.now old.counted part)
    (part_columns new.flags.now old.flagged part) (part_columns new.counters.now old.counted part)

-- To the sums at each sample of one part a number was added, and the other parts are unchanged.
pub record IsPartPlotted (strip : Strip) (part : ℕ) (change : Position → ℤ) (old new : Cells) : Type 0 where
  pub here : IsPlottedIn strip change old new part
  pub flags : (j : ℕ) → (j ≡ part → ⊥) → part_columns new.flags.now old.flagged j ≡ part_columns old.flags.now old.flagged j
  pub counters : (j : ℕ) → (j ≡ part → ⊥) → part_columns new.counters.now old.counted j ≡ part_columns old.counters.now old.counted j
  pub same : AreSame old new

-- To the sums at each sample of a strip a number was added, which depends on where the sample lies.
pub record ArePlotted (strip : Strip) (change : Position → ℤ) (old new : Cells) : Type 0 where
  pub plotted : (part : ℕ) → part < parts_of strip.count → IsPlottedIn strip change old new part
  pub same : AreSame old new

-- At each sample of a strip the edges of a polygon were counted.
abbrev pub IsPolygonPlotted : Strip → Rings → Cells → Cells → Type 0
IsPolygonPlotted strip rings old new = ArePlotted strip (λ p. winding (polygon_edges (rings_from rings.corners.now rings.start rings.ends.now)) p) old new
