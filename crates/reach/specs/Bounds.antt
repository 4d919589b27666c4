-- The tiles that each of many triangles can meet.
use Rattle.std.specs.Prelude.{◌≡◌, ℕ, ◌/◌, ◌<◌, ◌≤◌, List, slice_get, slice_index, Some}
use Rattle.grid.specs.declared.sample_count.SampleCount.{SampleCount}
use Rattle.shade.specs.declared.placed.Placed.{Placed}
use Rattle.reach.specs.declared.span.Span.{Span}
use Rattle.reach.specs.Reach.{IsInSpan, MeetsOnScreen}

-- Span k, from its number in the first list to before its number in the second, has this place.
pub record HasPlace (firsts ends : List ℕ) (k place : ℕ) : Type 0 where
  pub from : slice_index firsts k ≤ place
  pub below : place < slice_index ends k

-- The columns and the tile rows of triangle k, for each of the first n triangles, have the tile of each sample that it meets.
-- The span has its tile row.
abbrev pub AreBounds : List Placed → ℕ → List ℕ → List ℕ → List ℕ → List ℕ → Span → Type 0
AreBounds ts n column_firsts column_ends row_firsts row_ends span =
    (k : ℕ) (t : Placed) → k < n → slice_get ts k ≡ Some t → (count : SampleCount) (i j s : ℕ) → MeetsOnScreen t count i j s
    → HasPlace column_firsts column_ends k (i / 64) × HasPlace row_firsts row_ends k (j / 64) × IsInSpan span (j / 64)
