-- Tile rows that are drawn together.
use Rattle.std.specs.Prelude.{ℕ, ◌+◌, ◌-◌, ◌*◌, ◌<◌, List, IfOk, IfErr, IfSome}
use Rattle.bins.specs.Bin.{TileBins, HasBin, AreBins, AreOfTiles}
use Rattle.draw_list.specs.Scene.{Scene}
use Rattle.tiling.specs.Grid.{TileGrid, columns_of}
use Rattle.tiling.specs.declared.tile_pixels.TilePixels.{TilePixels}
use Rattle.tiling.specs.TileRow.{AreTileRows}
use Rattle.tiling.specs.Tiles.{AreTiles}
use Rattle.tile_rows.specs.declared.tile_rows.Beside.{Beside}
use Rattle.tile_rows.specs.declared.tile_rows.TileRows.{TileRows}

-- How many tiles these tile rows have.
abbrev pub tiles_in : TileRows → ℕ
tiles_in rows = (rows.end - rows.first) * columns_of rows.tiling.now

-- The pixels of all tiles of these tile rows.
abbrev pub AreTilesOf : TileRows → List TilePixels → Type 0
AreTilesOf rows tiles = AreTiles rows.list.now rows.tiling.now rows.first rows.end tiles

-- The bins of all tiles of these tile rows.
abbrev pub AreBinsOf : TileRows → TileBins → Type 0
AreBinsOf rows bins = AreBins rows.list.now rows.tiling.now rows.first (rows.end - rows.first) bins

-- Bins that have those of all tiles of the tile rows from `first` to before `end`, and may have others.
pub record HaveBins (l : Scene) (g : TileGrid) (first end : ℕ) (bins : TileBins) : Type 0 where
  pub has : (n : ℕ) → n < (end - first) * columns_of g → HasBin bins (first * columns_of g + n)
  pub each : AreOfTiles l g bins

-- Bins that have those of all tiles of these tile rows, and may have others.
abbrev pub HaveBinsOf : TileRows → TileBins → Type 0
HaveBinsOf rows bins = HaveBins rows.list.now rows.tiling.now rows.first rows.end bins

-- The bytes of the rows of pixels of these tile rows.
abbrev pub AreBytesOf : TileRows → List ℕ → Type 0
AreBytesOf rows bytes = AreTileRows rows.list.now rows.tiling.now.side rows.first rows.end bytes

-- What the calling thread makes while these tile rows are drawn: the bytes of those above, and the bins of those below. The bytes
-- are those from `above` on, whose allocation can fail only if there are some, and the bins are those to before `below`.
pub record IsBeside (rows : TileRows) (above below : ℕ) (beside : Beside) : Type 0 where
  pub joined : IfOk beside.joined (λ bytes. AreTileRows rows.list.now rows.tiling.now.side above rows.first bytes.items)
  pub refused : IfErr beside.joined (λ _. above < rows.first)
  pub bins : IfSome beside.bins (AreBins rows.list.now rows.tiling.now rows.end (below - rows.end))
