-- How a depth's numerator grows.
use Rattle.std.specs.Prelude.{ℕ, ℤ, pos, ◌≡◌, ◌<◌, ◌≤◌, ◌*◌, ◌^◌, ◌+ℤ◌, ◌-ℤ◌, ◌*ℤ◌}
use Rattle.std.specs.Int.RustNames.{unsigned_abs}
use Rattle.grid.specs.Position.{Position, IsInGuardBand}
use Rattle.grid.specs.Triangle.{doubled_area, Covers}
use Rattle.shade.specs.Value.{weighted_sum}
use Rattle.deep_planes.specs.declared.slope.Slope.{Slope}

-- The numerator of a slope at a point (x, y) in 1/256 pixel; the depth there is the numerator by the area.
abbrev pub depth_numerator : Slope → ℤ → ℤ → ℤ
depth_numerator s x y = pos (s.first * s.area) +ℤ (x -ℤ s.x) *ℤ s.across +ℤ (y -ℤ s.y) *ℤ s.down

-- The depths of a triangle's vertices fit 32 bits.
pub record Are32Bit (u v w : ℕ) : Type 0 where
  pub first : u ≤ 4294967295
  pub second : v ≤ 4294967295
  pub third : w ≤ 4294967295

-- The slope's numerator is the weighted sum of u, v, w at each point that the triangle abc covers.
pub record IsDepthSlope (a b c : Position) (u v w : ℕ) (s : Slope) : Type 0 where
  pub of_area : s.area ≡ unsigned_abs (doubled_area a b c)
  pub bound : s.area ≤ 2 ^ 48
  pub sum : (p : Position) → Covers a b c p → depth_numerator s p.x p.y ≡ pos (weighted_sum a b c p u v w)
  pub in_band : IsInGuardBand (record { x = s.x; y = s.y })
  pub across : unsigned_abs s.across < 2 ^ 57
  pub down : unsigned_abs s.down < 2 ^ 57

-- The slope is not steep: by the area it grows by less than 2^31 with 1/256 pixel. So it has gradients of 32
-- fractional bits.
pub record IsLevelDepth (s : Slope) : Type 0 where
  pub across : unsigned_abs s.across < s.area * 2 ^ 31
  pub down : unsigned_abs s.down < s.area * 2 ^ 31
