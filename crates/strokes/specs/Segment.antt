use Rattle.std.specs.Prelude.{ℕ, ℤ, pos, neg_ℤ, ◌+ℤ◌, ◌-ℤ◌, ◌*ℤ◌}
use Rattle.std.specs.Int.RustNames.{unsigned_abs}
use Rattle.grid.specs.Position.{Position}
use Rattle.grid.specs.Edge.{side}
use Rattle.strokes.specs.Border.{owns, IsAtMost, IsWithinHalf}

-- The dot product of ab and ap: how far p is from a in the direction of b, times the length of ab.
unfoldable pub dot : Position → Position → Position → ℤ
dot a b p = (b.x -ℤ a.x) *ℤ (p.x -ℤ a.x) +ℤ (b.y -ℤ a.y) *ℤ (p.y -ℤ a.y)

-- The square of the length of ab.
unfoldable pub square_length : Position → Position → ℕ
square_length a b = unsigned_abs (dot a b b)

-- p is in front of a, seen towards b: not behind the line through a at right angles to ab.
abbrev pub IsInFront : Position → Position → Position → Type 0
IsInFront a b p = IsAtMost (pos 0) (owns (a.x -ℤ b.x) (a.y -ℤ b.y)) (neg_ℤ (dot a b p))

-- p is behind a, seen towards b. Each point is either in front or behind.
abbrev pub IsBehind : Position → Position → Position → Type 0
IsBehind a b p = IsAtMost (pos 0) (owns (b.x -ℤ a.x) (b.y -ℤ a.y)) (dot a b p)

-- p is at most half the width right of the line ab.
abbrev pub IsNearRight : Position → Position → ℕ → Position → Type 0
IsNearRight a b width p = IsWithinHalf width (square_length a b) (owns (a.y -ℤ b.y) (b.x -ℤ a.x)) (side a b p)

-- p is at most half the width left of the line ab.
abbrev pub IsNearLeft : Position → Position → ℕ → Position → Type 0
IsNearLeft a b width p = IsWithinHalf width (square_length a b) (owns (b.y -ℤ a.y) (a.x -ℤ b.x)) (neg_ℤ (side a b p))

-- p is in the strip of the line ab: at most half the width from the line.
pub record IsInStrip (a b : Position) (width : ℕ) (p : Position) : Type 0 where
  pub right : IsNearRight a b width p
  pub left : IsNearLeft a b width p

-- The segment ab of a stroke covers p: p is in its strip, in front of a towards b, and in front of b towards a. So it is for a line with butt
-- caps (SVG 2, stroke-linecap).
pub record SegmentCovers (a b : Position) (width : ℕ) (p : Position) : Type 0 where
  pub start : IsInFront a b p
  pub end : IsInFront b a p
  pub strip : IsInStrip a b width p
