-- How an attribute's numerator grows.
use Rattle.std.specs.Prelude.{ℕ, ℤ, pos, ◌≡◌, ◌<◌, ◌*◌, ◌^◌, ◌+ℤ◌, ◌-ℤ◌, ◌*ℤ◌}
use Rattle.std.specs.Int.RustNames.{unsigned_abs}
use Rattle.grid.specs.Position.{Position, IsInGuardBand}
use Rattle.grid.specs.Edge.{side}
use Rattle.grid.specs.Triangle.{doubled_area, Covers}
use Rattle.gradients.specs.declared.slope.Slope.{Slope}
use Rattle.shade.specs.Value.{weighted_sum}

-- The numerator of a slope at a point (x, y) in 1/256 pixel; the attribute there is the numerator by the area.
abbrev pub numerator : Slope → ℕ → ℤ → ℤ → ℤ
numerator s area x y = pos (s.first * area) +ℤ (x -ℤ s.x) *ℤ s.across +ℤ (y -ℤ s.y) *ℤ s.down

-- How much the signed weighted sum of u, v, w grows with x, and with y, in 1/256 pixel. The sum is that of the values u, v, w at
-- the vertices a, b, c, each times the edge function of the opposite edge. At a it is u times the doubled area.
abbrev pub AreGrowths : Position → Position → Position → ℕ → ℕ → ℕ → ℤ → ℤ → Type 0
AreGrowths a b c u v w across down =
    (p : Position)
    → pos u *ℤ side b c p +ℤ pos v *ℤ side c a p +ℤ pos w *ℤ side a b p
    ≡ pos u *ℤ doubled_area a b c +ℤ (p.x -ℤ a.x) *ℤ across +ℤ (p.y -ℤ a.y) *ℤ down

-- The slope's numerator is the weighted sum of u, v, w at each point that the triangle abc covers.
pub record IsSlope (a b c : Position) (u v w : ℕ) (s : Slope) : Type 0 where
  pub sum : (p : Position) → Covers a b c p → numerator s (unsigned_abs (doubled_area a b c)) p.x p.y ≡ pos (weighted_sum a b c p u v w)
  pub in_band : IsInGuardBand (record { x = s.x; y = s.y })
  pub across : unsigned_abs s.across < 2 ^ 41
  pub down : unsigned_abs s.down < 2 ^ 41

-- The growths fit 41 bits and a sign.
pub record IsBounded (s : Slope) : Type 0 where
  pub across : unsigned_abs s.across < 2 ^ 41
  pub down : unsigned_abs s.down < 2 ^ 41
