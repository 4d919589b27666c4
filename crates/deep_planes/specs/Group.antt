-- The depths at a group of sixteen samples.
use Rattle.std.specs.Prelude.{ℕ, ◌<◌, ◌*◌, ◌^◌, List, slice_index}
use Rattle.std.specs.Int.RustNames.{unsigned_abs}
use Rattle.grid.specs.Position.{Position}
use Rattle.grid.specs.Triangle.{doubled_area, Covers}
use Rattle.gradients.specs.Candidate.{IsNear}
use Rattle.gradients.specs.Group.{position_in}
use Rattle.gradients.specs.AttributePlane.{sum_at}
use Rattle.deep_planes.specs.Depth.{IsDepthAt}

-- The lanes are the depth at each sample of the group at p that the triangle abc covers. It has the depths z at its vertices.
abbrev pub AreDeepDepths : Position → Position → Position → List ℕ → Position → List ℕ → Type 0
AreDeepDepths a b c z p lanes =
    (i : ℕ) → i < 16 → Covers a b c (position_in p i)
    → IsDepthAt a b c (position_in p i) (slice_index z 0) (slice_index z 1) (slice_index z 2) (slice_index lanes i)

-- The lanes are the depth, or the number after it, at each sample of the group at p that the triangle abc covers.
abbrev pub AreNearDepths : Position → Position → Position → List ℕ → Position → List ℕ → Type 0
AreNearDepths a b c z p lanes =
    (i : ℕ) → i < 16 → Covers a b c (position_in p i)
    → IsNear (sum_at a b c z (position_in p i)) (2 ^ 8 * unsigned_abs (doubled_area a b c)) (slice_index lanes i)
