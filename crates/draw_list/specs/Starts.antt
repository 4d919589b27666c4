use Rattle.std.specs.Prelude.{◌≡◌, ℕ, ◌-◌, ◌*◌, ◌<◌, ◌≤◌, List, length, take, slice_index, sum_by}
use Rattle.draw_list.specs.declared.draw.Draw.{Draw}
use Rattle.draw_list.specs.Primitives.{count_of_triangles, primitive_listing}

-- The number of each draw's first triangle: how many triangles the draws before it have.
pub record AreStarts (draws : List Draw) (starts : List ℕ) : Type 0 where
  pub size : length starts ≡ length draws
  pub each : (k : ℕ) → k < length draws → slice_index starts k ≡ sum_by (λ d. count_of_triangles (primitive_listing d.primitives)) (take k draws)

-- The draw in which the triangle of a number stands: the last one that starts at the number or before it.
pub record IsDrawOfTriangle (starts : List ℕ) (number draw : ℕ) : Type 0 where
  pub within : draw < length starts
  pub start : slice_index starts draw ≤ number
  pub last : (k : ℕ) → draw < k → k < length starts → number < slice_index starts k

-- The draws of the triangles at every sixteenth number. They go so far that a number of these triangles lies between two of them.
pub record AreOwners (starts : List ℕ) (triangles : ℕ) (owners : List ℕ) : Type 0 where
  pub far : triangles ≤ 16 * (length owners - 1)
  pub each : (group : ℕ) → group < length owners → IsDrawOfTriangle starts (16 * group) (slice_index owners group)
