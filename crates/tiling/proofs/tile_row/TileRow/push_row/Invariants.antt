use Rattle.std.proofs.Common.{◌+◌, ◌*◌, min}
use Rattle.grid.specs.Pixels.{side_of}
use Rattle.tiling.specs.Pixels.{AddsPixelRun}
use Rattle.tiling.specs.TileRow.{tile_row_top}
use Rattle.tiling.proofs.tile_row.TileRow.push_row.Given as goal

-- the tiles so far have their pixels of the row
abbrev pub invariant-loop-column : goal.invariant-loop-column
invariant-loop-column l =
    AddsPixelRun l.self.list.now 0 (tile_row_top l.self.tiling.now l.self.row + l.j) (min l.self.list.now.width (side_of l.self.tiling.now.side * l.column)) l.initial.bytes.items l.bytes.items
