-- Triangles that are fetched together.
use Rattle.std.specs.Prelude.{◌≡◌, ℕ, ◌+◌, ◌-◌, ◌<◌, ◌≤◌, List, length, slice_get, slice_index}
use Rattle.shade.specs.declared.placed.Placed.{Placed}
use Rattle.draw_list.specs.Scene.{Scene}
use Rattle.bins.specs.declared.fetched.Fetched.{Fetched}

-- Element k of the triangles is the one whose number stands at index first + k, while there are numbers.
abbrev pub AreFetched : Scene → List ℕ → ℕ → List Placed → Type 0
AreFetched l numbers first triangles = (k : ℕ) → k < length triangles → first + k < length numbers → slice_get triangles k ≡ slice_get l.triangles (slice_index numbers (first + k))

-- Triangles of these numbers have been fetched up to the one at this place, or just before it.
pub record IsBefore (l : Scene) (numbers : List ℕ) (place : ℕ) (fetched : Fetched) : Type 0 where
  pub are : AreFetched l numbers fetched.first fetched.triangles
  pub from : fetched.first ≤ place
  pub up_to : place ≤ fetched.first + 16

-- The triangle whose number stands at this place is among those that have been fetched.
pub record Has (l : Scene) (numbers : List ℕ) (place : ℕ) (fetched : Fetched) : Type 0 where
  pub from : fetched.first ≤ place
  pub below : place < fetched.first + 16
  pub triangle : slice_get fetched.triangles (place - fetched.first) ≡ slice_get l.triangles (slice_index numbers place)
