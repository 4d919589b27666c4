use Rattle.std.specs.Prelude.{ℕ, ℤ, pos, ◌≡◌, ◌⊎◌, ◌≤◌, ◌<◌, ◌+◌, ◌-◌, ◌*◌, ◌^◌, ◌/◌, ◌%◌, ◌+ℤ◌, ◌-ℤ◌, ◌*ℤ◌}
use Rattle.std.specs.Int.RustNames.{unsigned_abs}
use Rattle.grid.specs.Bounds.{IsWithin}
use Rattle.gradients.specs.declared.plane.Plane.{Plane}
use Rattle.gradients.specs.declared.slope.Slope.{Slope}
use Rattle.gradients.specs.Slope.{numerator, IsBounded}
use Rattle.gradients.specs.Reciprocal.{IsGradient, IsExactGradient}
use Rattle.gradients.specs.Modulo.{IsModulo}
use Rattle.gradients.specs.Multiple.{IsSixteenth}
use Rattle.gradients.specs.Whole.{IsWholeSlope}

-- How far a plane lies above its slope, so that no error takes it under the slope. That is two units of 2^32 and a sixteenth, or
-- three units if its gradients have no error.
abbrev pub IsMargin : ℕ → ℕ → Slope → ℤ → ℤ → ℕ → Type 0
IsMargin bits area s across down above =
    (above ≡ 2 ^ 33 + 2 ^ 28) ⊎ ((above ≡ 3 * 2 ^ 32) × IsExactGradient bits area s.across across × IsExactGradient bits area s.down down)

-- The slope is not steep: by the area it grows by less than 2^(63 - bits) with 1/256 pixel, so that it has gradients.
pub record IsLevel (bits area : ℕ) (s : Slope) : Type 0 where
  pub bounded : IsBounded s
  pub across : unsigned_abs s.across < area * 2 ^ (63 - bits)
  pub down : unsigned_abs s.down < area * 2 ^ (63 - bits)

-- The plane of a slope with `bits` fractional bits. Its gradients are near the exact ones, and it starts at the slope's vertex, by
-- its margin above the attribute there.
pub record IsPlane (bits area : ℕ) (s : Slope) (p : Plane) : Type 0 where
  pub across : IsGradient bits area s.across p.across
  pub down : IsGradient bits area s.down p.down
  pub above : ℕ
  pub margin : IsMargin bits area s p.across p.down above
  pub start : IsModulo (pos (s.first * 2 ^ bits) -ℤ s.x *ℤ p.across -ℤ s.y *ℤ p.down +ℤ pos above) p.start

-- q is p, three units of 2^32 higher.
pub record IsHigher (p q : Plane) : Type 0 where
  pub across : q.across ≡ p.across
  pub down : q.down ≡ p.down
  pub start : q.start ≡ (p.start + 3 * 2 ^ 32) % 2 ^ 64

-- A plane of a slope of whole values, three units higher.
pub record IsRaisedPlane (k area : ℕ) (s : Slope) (q : Plane) : Type 0 where
  pub lower : Plane
  pub is_plane : IsPlane (32 + k) area s lower
  pub higher : IsHigher lower q
  pub whole : IsWholeSlope k area s

-- The plane that candidates with k fractional bits are made of.
abbrev pub IsCandidatePlane : ℕ → ℕ → Slope → Plane → Type 0
IsCandidatePlane k area s p = IsPlane (32 + k) area s p ⊎ IsRaisedPlane k area s p

-- The numerator of a slope itself as a plane, with no fractional bits.
pub record IsNumeratorPlane (area : ℕ) (s : Slope) (p : Plane) : Type 0 where
  pub across : p.across ≡ s.across
  pub down : p.down ≡ s.down
  pub start : IsModulo (pos (s.first * area) -ℤ s.x *ℤ s.across -ℤ s.y *ℤ s.down) p.start

-- n is the plane's growth over a distance (x, y) in 1/256 pixel, modulo 2^64.
abbrev pub IsIncrement : Plane → ℤ → ℤ → ℕ → Type 0
IsIncrement p x y n = IsModulo (x *ℤ p.across +ℤ y *ℤ p.down) n

-- n is the plane's height at the point (x, y) in 1/256 pixel, modulo 2^64.
abbrev pub IsHeight : Plane → ℤ → ℤ → ℕ → Type 0
IsHeight p x y n = IsModulo (pos p.start +ℤ (x *ℤ p.across +ℤ y *ℤ p.down)) n

-- A point, where samples may lie, near the slope's vertex where the numerator is n, of an attribute of at most 32 - k bits.
pub record IsReached (k area : ℕ) (s : Slope) (x y : ℤ) (n : ℕ) : Type 0 where
  pub value : numerator s area x y ≡ pos n
  pub most : n * 2 ^ (32 + k) + 2 ^ 48 * area ≤ 2 ^ 64 * area
  pub sixteenth_x : IsSixteenth x
  pub sixteenth_y : IsSixteenth y
  pub near_x : IsWithin (2 ^ 23 + 2 ^ 20) (x -ℤ s.x)
  pub near_y : IsWithin (2 ^ 23 + 2 ^ 20) (y -ℤ s.y)

-- h is the high half of the plane's growth over a distance.
pub record IsHighPart (p : Plane) (x y : ℤ) (h : ℕ) : Type 0 where
  pub part : ℕ
  pub fits : part < 2 ^ 64
  pub is_part : IsIncrement p x y part
  pub is : h ≡ part / 2 ^ 32
