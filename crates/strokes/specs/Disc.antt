use Rattle.std.specs.Prelude.{ℕ, ◌*◌, pos, ◌*ℤ◌, int_lt}
use Rattle.grid.specs.Position.{Position}
use Rattle.strokes.specs.Border.{IsAtMost}
use Rattle.strokes.specs.Segment.{dot}

-- The disc around c with this width covers p: p is at most half the width from c. The circle itself is covered on its left half. The
-- point just right of any other point of the circle is outside, also of the highest and the lowest one.
abbrev pub DiscCovers : Position → ℕ → Position → Type 0
DiscCovers c width p = IsAtMost (pos (width * width)) (int_lt p.x c.x) (pos 4 *ℤ dot c p p)
