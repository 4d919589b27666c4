-- A depth in fixed point, or its numerator, as a plane.
use Rattle.std.specs.Prelude.{ℕ, ℤ, pos, ◌≡◌, ◌<◌, ◌*◌, ◌^◌, ◌/◌, ◌%◌, ◌+ℤ◌, ◌-ℤ◌, ◌*ℤ◌, List, length, slice_index}
use Rattle.gradients.specs.Modulo.{IsModulo}
use Rattle.gradients.specs.Reciprocal.{IsGradient}
use Rattle.deep_planes.specs.declared.slope.Slope.{Slope}
use Rattle.deep_planes.specs.declared.plane.Plane.{Plane}
use Rattle.deep_planes.specs.declared.lane_plane.LanePlane.{LanePlane}

-- The plane of a slope with 32 fractional bits. Its gradients are near the exact ones, and it starts at the slope's vertex, by
-- 2^26 units of the last bit above the depth there.
pub record IsPlaneOfDepth (s : Slope) (p : Plane) : Type 0 where
  pub across : IsGradient 32 s.area s.across p.across
  pub down : IsGradient 32 s.area s.down p.down
  pub start : IsModulo (pos (s.first * 2 ^ 32) -ℤ s.x *ℤ p.across -ℤ s.y *ℤ p.down +ℤ pos (2 ^ 26)) p.start

-- The numerator of a slope itself as a plane, with no fractional bits.
pub record IsPlaneOfNumerator (s : Slope) (p : Plane) : Type 0 where
  pub across : p.across ≡ s.across
  pub down : p.down ≡ s.down
  pub start : IsModulo (pos (s.first * s.area) -ℤ s.x *ℤ s.across -ℤ s.y *ℤ s.down) p.start

-- n is the plane's growth over a distance (x, y) in 1/256 pixel, modulo 2^64.
abbrev pub IsIncrementOf : Plane → ℤ → ℤ → ℕ → Type 0
IsIncrementOf p x y n = IsModulo (x *ℤ p.across +ℤ y *ℤ p.down) n

-- n is the plane's height at the point (x, y) in 1/256 pixel, modulo 2^64.
abbrev pub IsHeightOf : Plane → ℤ → ℤ → ℕ → Type 0
IsHeightOf p x y n = IsModulo (pos p.start +ℤ (x *ℤ p.across +ℤ y *ℤ p.down)) n

-- The lanes are the plane's growth to sixteen pixels, eight columns by two rows.
pub record AreIncrementsOf (p : Plane) (lanes : List ℕ) : Type 0 where
  pub long : length lanes ≡ 16
  pub each : (i : ℕ) → i < 16 → IsIncrementOf p (pos (256 * (i % 8))) (pos (256 * (i / 8))) (slice_index lanes i)

-- l is the plane p with its growth to sixteen pixels.
pub record IsLanePlane (p : Plane) (l : LanePlane) : Type 0 where
  pub same : l.plane ≡ p
  pub lanes : AreIncrementsOf l.plane l.lanes
