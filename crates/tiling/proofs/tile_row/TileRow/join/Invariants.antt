use Rattle.std.proofs.Common.{◌*◌}
use Rattle.tiling.specs.TileRow.{tile_row_top}
use Rattle.tiling.proofs.Columns.{AddsPixelPrefix}
use Rattle.tiling.proofs.tile_row.TileRow.join.Given as goal

-- the rows so far
abbrev pub invariant-loop-j : goal.invariant-loop-j
invariant-loop-j l =
    AddsPixelPrefix l.self.list.now (tile_row_top l.self.tiling.now l.self.row) (l.j * l.self.list.now.width) l.initial.bytes.items l.bytes.items
