use Rattle.std.proofs.Common.{◌≡◌}
use Rattle.bins.specs.Bin.{AreOfTiles}
use Rattle.tiling.specs.TileRow.{AddsTileRows}
use Rattle.engine.proofs.picture_bytes.push_tile_rows.Given as goal

-- the tile rows so far
abbrev pub invariant-loop-row : goal.invariant-loop-row
invariant-loop-row l = record {
  added : AddsTileRows l.list l.tiling.side l.first l.row l.initial.bytes.items l.bytes.items;
  store : l.store ≡ l.initial.store;
  bins : AreOfTiles l.list l.tiling l.bins;
}
