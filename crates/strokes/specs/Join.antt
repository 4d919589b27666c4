use Rattle.std.specs.Prelude.{◌⊎◌, ℕ, ◌*◌, ℤ, pos, neg_ℤ, ◌-ℤ◌, ◌*ℤ◌, ◌≤ℤ◌}
use Rattle.std.specs.Int.RustNames.{unsigned_abs}
use Rattle.grid.specs.Position.{Position}
use Rattle.strokes.specs.declared.join.Join.{Join}
use Rattle.strokes.specs.declared.join.Join.TheVariants.{Round, Miter}
use Rattle.strokes.specs.Segment.{dot, square_length, IsBehind, IsInStrip}
use Rattle.strokes.specs.Disc.{DiscCovers}

-- A number times its absolute value, which grows with the number. So x root(q) <= y if and only if this of x times q is at most this
-- of y.
abbrev pub signed_square : ℤ → ℤ
signed_square z = z *ℤ pos (unsigned_abs z)

-- The miter limit allows a miter at the corner abc (SVG 2, stroke-miterlimit). That is: 1 / sin(phi / 2) is at most the limit, where phi
-- is the angle between ba and bc. With the limit m in eighths it means 128 <= m^2 (1 - cos phi), where cos phi is the dot product of ba
-- and bc over the product of their lengths. Here both sides are multiplied by these lengths.
abbrev pub IsWithinLimit : ℕ → Position → Position → Position → Type 0
IsWithinLimit m a b c =
    (signed_square (pos 128 -ℤ pos (m * m)) *ℤ pos (square_length a b * square_length b c)) ≤ℤ signed_square (neg_ℤ (pos (m * m) *ℤ dot b a c))

-- The corner abc has a miter.
abbrev pub IsMitered : Join → Position → Position → Position → Type 0
IsMitered Round a b c = ⊥
IsMitered (Miter limit) a b c = IsWithinLimit limit a b c

-- The strips of the lines ab and bc both have p.
pub record IsInMiter (a b c : Position) (width : ℕ) (p : Position) : Type 0 where
  pub first : IsInStrip a b width p
  pub second : IsInStrip b c width p

-- What bounds the join at the corner abc has p. A miter is what both strips have in common, and a round join the disc around b. The disc
-- also replaces a miter that the limit does not allow.
abbrev pub JoinBounds : Join → Position → Position → Position → ℕ → Position → Type 0
JoinBounds join a b c width p = (IsMitered join a b c × IsInMiter a b c width p) ⊎ (¬ (IsMitered join a b c) × DiscCovers b width p)

-- p is in the wedge of the corner abc: behind b, seen towards a and also towards c.
pub record IsInWedge (a b c : Position) (p : Position) : Type 0 where
  pub first : IsBehind b a p
  pub second : IsBehind b c p

-- The join at the corner abc covers p (SVG 2, stroke-linejoin): p is in the corner's wedge, and within what bounds the join.
pub record JoinCovers (join : Join) (a b c : Position) (width : ℕ) (p : Position) : Type 0 where
  pub wedge : IsInWedge a b c p
  pub shape : JoinBounds join a b c width p
