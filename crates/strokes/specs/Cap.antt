use Rattle.std.specs.Prelude.{ℕ, ℤ, pos, neg_ℤ, ◌-ℤ◌, ◌*ℤ◌, ◌≤ℤ◌, ◌<ℤ◌}
use Rattle.grid.specs.Position.{Position}
use Rattle.strokes.specs.declared.cap.Cap.{Cap}
use Rattle.strokes.specs.declared.cap.Cap.TheVariants.{Butt, Round, Square}
use Rattle.strokes.specs.Border.{owns, IsWithinHalf}
use Rattle.strokes.specs.Segment.{dot, square_length, IsBehind, IsInStrip}
use Rattle.strokes.specs.Disc.{DiscCovers}

-- p is at most half the width behind a, seen towards b.
abbrev pub IsNearBehind : Position → Position → ℕ → Position → Type 0
IsNearBehind a b width p = IsWithinHalf width (square_length a b) (owns (a.x -ℤ b.x) (a.y -ℤ b.y)) (neg_ℤ (dot a b p))

-- The cap at a, where the path goes on to b, covers p (SVG 2, stroke-linecap). A butt cap covers nothing, a round one the half of the
-- disc that is behind a, and a square one the strip behind a for half the width.
abbrev pub CapCovers : Cap → Position → Position → ℕ → Position → Type 0
CapCovers Butt a b width p = ⊥
CapCovers Round a b width p = IsBehind a b p × DiscCovers a width p
CapCovers Square a b width p = IsBehind a b p × IsInStrip a b width p × IsNearBehind a b width p

-- z is at most half the width from c. The lower end belongs to this range and the upper one does not (Direct3D 11, top-left rule).
pub record IsAcross (c : ℤ) (width : ℕ) (z : ℤ) : Type 0 where
  pub low : neg_ℤ (pos width) ≤ℤ (pos 2 *ℤ (z -ℤ c))
  pub high : (pos 2 *ℤ (z -ℤ c)) <ℤ pos width

-- The square around c with horizontal and vertical sides of this width covers p.
pub record SquareCovers (c : Position) (width : ℕ) (p : Position) : Type 0 where
  pub x : IsAcross c.x width p.x
  pub y : IsAcross c.y width p.y

-- The path of one point c covers p: it is a cap alone (SVG 2, zero-length subpaths). A butt cap is nothing here, a round one a disc, and
-- a square one a square.
abbrev pub DotCovers : Cap → Position → ℕ → Position → Type 0
DotCovers Butt c width p = ⊥
DotCovers Round c width p = DiscCovers c width p
DotCovers Square c width p = SquareCovers c width p
