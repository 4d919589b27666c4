-- Blocks of 8 by 8 samples as bits of one word.
use Rattle.std.specs.Prelude.{◌≡◌, ◌↔◌, ℕ, ◌+◌, ◌*◌, ◌<◌, pos, ◌+ℤ◌, List}
use Rattle.std.specs.Int.{bit_at}
use Rattle.grid.specs.Position.{Position}
use Rattle.polygons.specs.declared.edge.Edge.{Edge}
use Rattle.polygons.specs.declared.rule.Rule.{Rule}
use Rattle.polygons.specs.Crossing.{IsInside}
use Rattle.polygons.specs.Columns.{along}

-- The position this many pixels below p.
abbrev pub down : Position → ℕ → Position
down p rows = record { x = p.x; y = p.y +ℤ pos (256 * rows) }

-- The sample in a row and a column of a block, whose first sample is p.
abbrev pub in_block : Position → ℕ → ℕ → Position
in_block p row column = along (down p row) (pos column)

-- Bit 8 row + column of the mask says whether the sample there is inside of the edges by the rule.
abbrev pub IsBlockMask : Rule → List Edge → Position → ℕ → Type 0
IsBlockMask rule edges p mask =
    (row column : ℕ) → row < 8 → column < 8 → ((bit_at mask (8 * row + column) ≡ 1) ↔ IsInside rule edges (in_block p row column))
