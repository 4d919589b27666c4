-- How many samples of the picture a triangle covers, changes and is shown by.
use Rattle.std.specs.Prelude.{◌≡◌, ℕ, zero, suc, ◌+◌, ◌<◌, ◌≤◌, List, take, slice_get, Some}
use Rattle.grid.specs.Samples.{count_of, sample_position}
use Rattle.grid.specs.Triangle.{Covers}
use Rattle.grid.specs.declared.sample_count.SampleCount.{SampleCount}
use Rattle.grid.specs.declared.triangle.Tri.{Tri}
use Rattle.shade.specs.declared.placed.Placed.{Placed}
use Rattle.history.specs.Changed.{IsChangedBy, Shows, IsFollowed}
use Rattle.history.specs.Samples.{IsOneIf, AreSamples}
use Rattle.history.specs.declared.followed.Followed.{Followed}
use Rattle.draw_list.specs.Scene.{Scene}
use Rattle.list_history.specs.declared.columns.Columns.{Columns}
use Rattle.list_history.specs.declared.sample_counts.SampleCounts.{SampleCounts}

-- Triangle n of the list covers sample s of pixel (i, j), whether or not it is culled, scissored or masked there.
pub record CoversSample (l : Scene) (n i j s : ℕ) : Type 0 where
  pub triangle : Placed
  pub is : slice_get l.triangles n ≡ Some triangle
  pub covers : Covers triangle.tri.a triangle.tri.b triangle.tri.c (sample_position i j s l.count)

-- How many samples of the picture triangle n covers, how many it changes, and how many still show it in the end.
pub record AreCountsOf (l : Scene) (n : ℕ) (c : SampleCounts) : Type 0 where
  pub covered : AreSamples (λ i j s. CoversSample l n i j s) l.count l.width l.height c.covered
  pub changed : AreSamples (λ i j s. IsChangedBy l.triangles n l.count i j s l.clear) l.count l.width l.height c.changed
  pub shown : AreSamples (λ i j s. Shows l.triangles n l.count i j s l.clear) l.count l.width l.height c.shown

-- Of sample s of pixel (i, j) alone: each count is 1 or 0.
pub record AreCountsAt (l : Scene) (n i j s : ℕ) (c : SampleCounts) : Type 0 where
  pub covered : IsOneIf (CoversSample l n i j s) c.covered
  pub changed : IsOneIf (IsChangedBy l.triangles n l.count i j s l.clear) c.changed
  pub shown : IsOneIf (Shows l.triangles n l.count i j s l.clear) c.shown

-- No samples.
abbrev pub no_counts : SampleCounts
no_counts = record { covered = 0; changed = 0; shown = 0 }

-- The counts of two sets of samples together.
abbrev pub both_counts : SampleCounts → SampleCounts → SampleCounts
both_counts c d = record { covered = c.covered + d.covered; changed = c.changed + d.changed; shown = c.shown + d.shown }

-- The counts are the sums of those that P gives for 0 to before n.
abbrev pub AreCountSums : (ℕ → SampleCounts → Type 0) → ℕ → SampleCounts → Type 0
AreCountSums P zero c = c ≡ no_counts
AreCountSums P (suc n) c = (rest : SampleCounts) × (last : SampleCounts) × AreCountSums P n rest × P n last × (c ≡ both_counts rest last)

-- No count exceeds m.
pub record AreAtMost (m : ℕ) (c : SampleCounts) : Type 0 where
  pub covered : c.covered ≤ m
  pub changed : c.changed ≤ m
  pub shown : c.shown ≤ m

-- The columns `some` hold each column of `all` in which the triangle covers a sample of the screen.
abbrev pub HoldColumns : Tri → Columns → Columns → Type 0
HoldColumns t all some =
    (count : SampleCount) (i j s : ℕ) → i < 4096 → j < 4096 → s < count_of count → all.first ≤ i → i < all.end
    → Covers t.a t.b t.c (sample_position i j s count) → (some.first ≤ i) × (i < some.end)

-- The columns hold each one of the picture in which triangle n covers a sample.
abbrev pub HoldCovered : Scene → ℕ → Columns → Type 0
HoldCovered l n columns =
    (i j s : ℕ) → i < l.width → j < 4096 → s < count_of l.count → CoversSample l n i j s → (columns.first ≤ i) × (i < columns.end)

-- In these columns, the row has samples s of row j of the picture after k triangles, and what triangle n did to them.
abbrev pub IsRowAfter : Scene → ℕ → ℕ → ℕ → Columns → ℕ → List Followed → Type 0
IsRowAfter l n j s columns k row =
    (i : ℕ) (f : Followed) → columns.first ≤ i → i < columns.end → slice_get row i ≡ Some f
    → IsFollowed (take k l.triangles) n l.count i j s l.clear f
