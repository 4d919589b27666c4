-- Values that are stepped along a row of pixels.
use Rattle.std.specs.Prelude.{◌≡◌, ℕ, ◌+◌, ◌*◌, ◌^◌, ◌<◌, ◌≤◌, ℤ, pos, ◌+ℤ◌, ◌*ℤ◌}
use Rattle.std.specs.Int.RustNames.{unsigned_abs}
use Rattle.grid.specs.Bounds.{IsWithin}
use Rattle.grid.specs.Position.{Position, right_of}
use Rattle.grid.specs.Triangle.{doubled_area, Covers}
use Rattle.shade.specs.declared.step.Step.{Step}
use Rattle.shade.specs.Value.{weighted_sum}

-- The values u, v, w of an attribute at the vertices a, b, c of a triangle.
pub record Attribute : Type 0 where
  pub a : Position
  pub b : Position
  pub c : Position
  pub u : ℕ
  pub v : ℕ
  pub w : ℕ

-- The values u, v, w of an attribute at the vertices a, b, c of a triangle, and a point p.
pub record AttributeAt : Type 0 where
  pub a : Position
  pub b : Position
  pub c : Position
  pub p : Position
  pub u : ℕ
  pub v : ℕ
  pub w : ℕ

-- n divided by d is q, with the remainder r.
pub record IsDivided (n d q r : ℕ) : Type 0 where
  pub sum : n ≡ q * d + r
  pub less : r < d

-- The step adds `change`, of either sign, as a quotient by the area and a remainder.
pub record IsSplit (change : ℤ) (area : ℕ) (step : Step) : Type 0 where
  pub of_area : step.area ≡ area
  pub sum : change ≡ step.quotient *ℤ pos area +ℤ pos step.remainder
  pub less : step.remainder < area
  pub size : IsWithin (2 ^ 51) step.quotient

-- Between two covered points, the second a pixel to the right of the first, the weighted sum changes by this number.
abbrev pub IsChange : Position → Position → Position → ℕ → ℕ → ℕ → ℤ → Type 0
IsChange a b c u v w change =
    (p : Position) → Covers a b c p → Covers a b c (right_of p)
    → pos (weighted_sum a b c (right_of p) u v w) ≡ pos (weighted_sum a b c p u v w) +ℤ change

-- The step adds what the weighted sum changes by with a pixel to the right.
pub record IsStep (a b c : Position) (u v w : ℕ) (step : Step) : Type 0 where
  pub change : ℤ
  pub is_change : IsChange a b c u v w change
  pub area : ℕ
  pub of_all : area ≡ unsigned_abs (doubled_area a b c)
  pub some : 0 < area
  pub bound : area ≤ 2 ^ 48
  pub split : IsSplit change area step

-- The values of an attribute fit 16 bits.
pub record Are16Bit (u v w : ℕ) : Type 0 where
  pub first : u ≤ 65535
  pub second : v ≤ 65535
  pub third : w ≤ 65535

-- A value at the covered point p, with the remainder of the weighted sum, and the step from there.
pub record IsRowAt (a b c p : Position) (u v w value remainder : ℕ) (step : Step) : Type 0 where
  pub covered : Covers a b c p
  pub divided : IsDivided (weighted_sum a b c p u v w) (unsigned_abs (doubled_area a b c)) value remainder
  pub is_step : IsStep a b c u v w step
  pub small : Are16Bit u v w
