-- Edges that run downwards, walked down from row to row by the samples of a part.
use Rattle.std.specs.Prelude.{◌≡◌, ℕ, ◌+◌, ◌*◌, ◌^◌, ◌<◌, ◌≤◌, ℤ, pos, negsuc, ◌+ℤ◌, ◌-ℤ◌, ◌*ℤ◌, neg_ℤ, ◌≤ℤ◌, ◌<ℤ◌, slice_index_or}
use Rattle.grid.specs.Bounds.{IsWithin}
use Rattle.grid.specs.Edge.{side}
use Rattle.grid.specs.Position.{Position}
use Rattle.grid.specs.Samples.{part_size}
use Rattle.polygons.specs.declared.strip.Strip.{Strip}
use Rattle.polygons.specs.declared.walk.Descent.{Descent}
use Rattle.polygons.specs.declared.walk.PartWalk.{PartWalk}
use Rattle.polygons.specs.Blocks.{down}
use Rattle.polygons.specs.Columns.{along, IsAtColumn, IsEdgeStep}
use Rattle.polygons.specs.Strip.{start_of}

-- A number if z is below 0, else 0.
abbrev pub if_below : ℤ → ℤ → ℤ
if_below (pos n) number = pos 0
if_below (negsuc n) number = number

-- The upper left corner of the pixel in a row and column 0 of a strip.
abbrev pub corner_of : Strip → ℕ → Position
corner_of strip row = record { x = pos 256 *ℤ strip.column; y = pos 256 *ℤ (strip.row +ℤ pos row) }

-- The sizes of the numbers by which an edge goes from row to row.
pub record IsSmallStep (d : Descent) : Type 0 where
  pub height : IsWithin (2 ^ 25) d.height
  pub columns : IsWithin (2 ^ 25) d.columns
  pub part : IsWithin (2 ^ 25) d.part

-- An edge that runs downwards, seen from a corner, and the rows of a strip outside of which no sample has its height.
pub record IsDescent (strip : Strip) (d : Descent) : Type 0 where
  pub small : IsSmallStep d
  pub tall : d.height ≡ d.edge.b.y -ℤ d.edge.a.y
  pub step : IsEdgeStep d.edge d.columns d.part
  pub place : neg_ℤ (side d.edge.a d.edge.b (along (corner_of strip d.first) d.column)) ≡ d.above
  pub above_low : pos 0 ≤ℤ d.above
  pub above_high : d.above <ℤ (pos 256 *ℤ d.height)
  pub column : IsWithin (2 ^ 50) d.column
  pub rows_above : (row : ℕ) → row < d.first → (pos 256 *ℤ (strip.row +ℤ pos row) +ℤ pos 256) ≤ℤ d.edge.a.y
  pub rows_below : (row : ℕ) → d.end ≤ row → row < 64 → d.edge.b.y ≤ℤ (pos 256 *ℤ (strip.row +ℤ pos row))
  pub most : d.end ≤ 64

-- The columns and rests of a row. Each row may take them further.
pub record IsWalked (strip : Strip) (part : ℕ) (d : Descent) (row : ℕ) (w : PartWalk) : Type 0 where
  pub at : (s : ℕ) → s < part_size strip.count → IsAtColumn d.edge (down (start_of strip (4 * part + s)) row) (slice_index_or w.columns s (pos 0)) (slice_index_or w.rests s (pos 0))
  pub columns : (s : ℕ) → s < 4 → IsWithin (2 ^ 51 + 2 ^ 26 * row) (slice_index_or w.columns s (pos 0))
  pub rests : (s : ℕ) → s < 4 → IsWithin (2 ^ 51 + 2 ^ 26 * row) (slice_index_or w.rests s (pos 0))

-- A sample's column and rest, and those of the row below.
pub record IsNextRow (d : Descent) (column rest column' rest' : ℤ) : Type 0 where
  pub next_column : column' ≡ (column +ℤ d.columns) +ℤ if_below (rest -ℤ d.part) (pos 1)
  pub next_rest : rest' ≡ (rest -ℤ d.part) +ℤ if_below (rest -ℤ d.part) d.height
