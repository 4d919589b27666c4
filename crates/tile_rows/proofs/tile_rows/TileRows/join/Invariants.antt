use Rattle.tiling.specs.TileRow.{AddsTileRows}
use Rattle.tile_rows.proofs.tile_rows.TileRows.join.Given as goal

-- the tile rows so far
abbrev pub invariant-loop-row : goal.invariant-loop-row
invariant-loop-row l = AddsTileRows l.self.list.now l.self.tiling.now.side l.self.first l.row l.initial.bytes.items l.bytes.items
