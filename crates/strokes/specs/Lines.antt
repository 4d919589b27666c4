-- Sides of straight lines, and the columns of a row of samples that are on them.
use Rattle.std.specs.Prelude.{ℤ, ◌+ℤ◌, ◌-ℤ◌, ◌*ℤ◌, ◌≤ℤ◌, ◌<ℤ◌}
use Rattle.grid.specs.Position.{Position}
use Rattle.strokes.specs.declared.line.Line.{Line}
use Rattle.strokes.specs.declared.span.Span.{Span}

-- The edge function of the line at p: 0 at a point of the line, and linear in p.
unfoldable pub edge_function : Line → Position → ℤ
edge_function line p = line.x *ℤ (p.x -ℤ line.from.x) +ℤ line.y *ℤ (p.y -ℤ line.from.y)

-- p is on this side of the line.
abbrev pub IsOnSide : Line → Position → Type 0
IsOnSide line p = edge_function line p ≤ℤ line.bound

-- The span has this column.
pub record HasColumn (span : Span) (k : ℤ) : Type 0 where
  pub first : span.first ≤ℤ k
  pub end : k <ℤ span.end
