use Rattle.std.specs.Prelude.{◌≡◌, ◌⊎◌, ℕ, ◌*◌, ℤ, pos, ◌*ℤ◌, ◌<ℤ◌, Bool, ◌&&◌, ◌||◌, int_lt, IsTrue}
use Rattle.std.specs.Ordering.{int_eq}

-- A border f = bound belongs to the side of less f, where f grows in this direction (Direct3D 11, top-left rule). So the point just
-- right of the border lies on that side or, if the border is horizontal, the point just below it.
abbrev pub Owns : ℤ → ℤ → Type 0
Owns x y = (x <ℤ pos 0) ⊎ ((x ≡ pos 0) × (y <ℤ pos 0))

-- `Owns` as a truth value.
abbrev pub owns : ℤ → ℤ → Bool
owns x y = int_lt x (pos 0) || (int_eq x (pos 0) && int_lt y (pos 0))

-- f is less than the bound, or it equals the bound and this side owns the border.
abbrev pub IsAtMost : ℤ → Bool → ℤ → Type 0
IsAtMost bound is_owned f = (f <ℤ bound) ⊎ ((f ≡ bound) × IsTrue is_owned)

-- 2 f is less than the square root of n, or it equals the root and this side owns the border. A negative f is less; of any other the
-- squares are compared.
abbrev pub IsWithinRoot : ℕ → Bool → ℤ → Type 0
IsWithinRoot n is_owned f = (f <ℤ pos 0) ⊎ IsAtMost (pos n) is_owned (pos 4 *ℤ (f *ℤ f))

-- f is at most half the width times the length of a segment, whose squared length is given. A tie counts if this side owns the border.
abbrev pub IsWithinHalf : ℕ → ℕ → Bool → ℤ → Type 0
IsWithinHalf width square is_owned f = IsWithinRoot (width * width * square) is_owned f
