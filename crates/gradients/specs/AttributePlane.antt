-- What a triangle's vertices have, as planes.
use Rattle.std.specs.Prelude.{◌≡◌, ◌⊎◌, ℕ, IsTrue, pos, ◌*◌, ◌/◌, ◌%◌, ◌<◌, ◌≤◌, List, length, slice_index}
use Rattle.std.specs.Int.RustNames.{unsigned_abs}
use Rattle.grid.specs.Position.{Position}
use Rattle.grid.specs.Triangle.{doubled_area, Covers}
use Rattle.shade.specs.Value.{weighted_sum, IsValueAt}
use Rattle.shade.specs.Row.{Are16Bit}
use Rattle.gradients.specs.Group.{position_in}
use Rattle.gradients.specs.Candidate.{IsCandidate, IsNear}
use Rattle.gradients.specs.Slope.{IsSlope, IsBounded}
use Rattle.gradients.specs.Plane.{IsCandidatePlane, IsLevel, IsHighPart}
use Rattle.gradients.specs.declared.slope.Slope.{Slope}
use Rattle.shade.specs.Merging.{Writes, ReadsAlpha}
use Rattle.shade.specs.Placed.{channel}
use Rattle.shade.specs.declared.placed.Placed.{Placed}
use Rattle.gradients.specs.declared.plane.Plane.{Plane}
use Rattle.gradients.specs.declared.attribute_plane.AttributePlane.{AttributePlane}
use Rattle.gradients.specs.declared.depth_plane.DepthPlane.{DepthPlane}
use Rattle.gradients.specs.declared.colour_planes.ColourPlanes.{ColourPlanes}
use Rattle.gradients.specs.declared.colour_planes.ColourSlopes.{ColourSlopes}

-- The weighted sum at p of three values at the vertices a, b, c.
abbrev pub sum_at : Position → Position → Position → List ℕ → Position → ℕ
sum_at a b c values p = weighted_sum a b c p (slice_index values 0) (slice_index values 1) (slice_index values 2)

-- The lanes are candidates, of k fractional bits, of the value at each sample of a group that the triangle covers. The group starts
-- at p and has sixteen samples, and the triangle is abc.
abbrev pub AreLaneCandidates : ℕ → Position → Position → Position → List ℕ → Position → List ℕ → Type 0
AreLaneCandidates k a b c values p lanes =
    (i : ℕ) → i < 16 → Covers a b c (position_in p i)
    → IsCandidate k (sum_at a b c values (position_in p i)) (unsigned_abs (doubled_area a b c)) (slice_index lanes i)

-- The lanes are the value, or the number after it, at each sample of the group at p that the triangle abc covers.
abbrev pub AreNear : Position → Position → Position → List ℕ → Position → List ℕ → Type 0
AreNear a b c values p lanes =
    (i : ℕ) → i < 16 → Covers a b c (position_in p i) → IsNear (sum_at a b c values (position_in p i)) (unsigned_abs (doubled_area a b c)) (slice_index lanes i)

-- The lanes are the value at each sample of the group at p that the triangle abc covers.
abbrev pub AreValues : Position → Position → Position → List ℕ → Position → List ℕ → Type 0
AreValues a b c values p lanes =
    (i : ℕ) → i < 16 → Covers a b c (position_in p i)
    → IsValueAt a b c (position_in p i) (slice_index values 0) (slice_index values 1) (slice_index values 2) (slice_index lanes i)

-- The lanes are the high halves of a plane's growth to sixteen pixels, eight columns by two rows.
pub record AreHighParts (p : Plane) (lanes : List ℕ) : Type 0 where
  pub long : length lanes ≡ 16
  pub each : (i : ℕ) → i < 16 → IsHighPart p (pos (256 * (i % 8))) (pos (256 * (i / 8))) (slice_index lanes i)

-- The values fit 8 bits.
pub record AreByteValues (values : List ℕ) : Type 0 where
  pub first : slice_index values 0 ≤ 255
  pub second : slice_index values 1 ≤ 255
  pub third : slice_index values 2 ≤ 255

-- The values of depth leave 16 fractional bits of 32, and those of a channel 24.
abbrev pub IsNarrow : ℕ → List ℕ → Type 0
IsNarrow k values = ((k ≡ 16) × Are16Bit (slice_index values 0) (slice_index values 1) (slice_index values 2)) ⊎ ((k ≡ 24) × AreByteValues values)

-- The plane of the values at the vertices a, b, c, for candidates of k fractional bits.
pub record IsAttributePlane (k : ℕ) (a b c : Position) (values : List ℕ) (p : AttributePlane) : Type 0 where
  pub slope : Slope
  pub narrow : IsNarrow k values
  pub is_slope : IsSlope a b c (slice_index values 0) (slice_index values 1) (slice_index values 2) slope
  pub is_plane : IsCandidatePlane k (unsigned_abs (doubled_area a b c)) slope p.plane
  pub are_lanes : AreHighParts p.plane p.lanes

-- How one attribute of a triangle grows with x and y.
abbrev pub IsSlopeOf : Placed → List ℕ → Slope → Type 0
IsSlopeOf t values s = IsSlope t.tri.a t.tri.b t.tri.c (slice_index values 0) (slice_index values 1) (slice_index values 2) s

-- How channel k of a triangle grows with x and y, which is red, green, blue or alpha.
pub record IsChannelSlope (t : Placed) (k : ℕ) (s : Slope) : Type 0 where
  pub slope : IsSlopeOf t (channel t k) s
  pub bytes : AreByteValues (channel t k)

-- The plane of the depth of a triangle, for candidates of 16 fractional bits.
abbrev pub IsDepthPlane : Placed → DepthPlane → Type 0
IsDepthPlane t p = IsAttributePlane 16 t.tri.a t.tri.b t.tri.c t.z p.depth

-- A channel has a plane if the draw reads it: red, green and blue if they are written, and alpha if it reads it.
pub record AreColourPlanes (t : Placed) (p : ColourPlanes) : Type 0 where
  pub of_red : Writes t.state.merge 0 → IsAttributePlane 24 t.tri.a t.tri.b t.tri.c (channel t 0) p.red
  pub of_green : Writes t.state.merge 1 → IsAttributePlane 24 t.tri.a t.tri.b t.tri.c (channel t 1) p.green
  pub of_blue : Writes t.state.merge 2 → IsAttributePlane 24 t.tri.a t.tri.b t.tri.c (channel t 2) p.blue
  pub of_alpha : ReadsAlpha t.state.merge → IsAttributePlane 24 t.tri.a t.tri.b t.tri.c (channel t 3) p.alpha

-- The slopes of a triangle's channels that the draw reads.
pub record AreColourSlopes (t : Placed) (s : ColourSlopes) : Type 0 where
  pub of_red : Writes t.state.merge 0 → IsChannelSlope t 0 s.red
  pub of_green : Writes t.state.merge 1 → IsChannelSlope t 1 s.green
  pub of_blue : Writes t.state.merge 2 → IsChannelSlope t 2 s.blue
  pub of_alpha : ReadsAlpha t.state.merge → IsChannelSlope t 3 s.alpha
  pub has_alpha : ReadsAlpha t.state.merge → IsTrue s.has_alpha

-- The growths of all four channels fit 41 bits and a sign.
pub record AreBounded (s : ColourSlopes) : Type 0 where
  pub of_red : IsBounded s.red
  pub of_green : IsBounded s.green
  pub of_blue : IsBounded s.blue
  pub of_alpha : IsBounded s.alpha

-- The slopes of all four channels are not steep, so that they have gradients of 56 fractional bits.
pub record AreLevel (area : ℕ) (s : ColourSlopes) : Type 0 where
  pub of_red : IsLevel 56 area s.red
  pub of_green : IsLevel 56 area s.green
  pub of_blue : IsLevel 56 area s.blue
  pub of_alpha : IsLevel 56 area s.alpha
