use Rattle.std.proofs.Common.{◌≡◌, ◌≤◌, vec_len, vec_capacity}
use Rattle.tiling.proofs.Tiled.{AreFirst}
use Rattle.tile_rows.proofs.tile_rows.TileRows.draw_alone.Given as goal

-- the tiles so far, capacity for all, and the store unchanged
abbrev pub invariant-loop-n : goal.invariant-loop-n
invariant-loop-n g l = record {
  tiles : AreFirst l.fn.self.list.now l.fn.self.tiling.now l.fn.self.first l.n l.tiles.items;
  number : vec_len l.tiles ≡ l.n;
  room : l.count ≤ vec_capacity l.tiles;
  store : l.store ≡ l.fn.store;
}
