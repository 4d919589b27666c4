-- One tile row, and the rows of pixels in it.
use Rattle.std.specs.Prelude.{◌≡◌, ℕ, ◌+◌, ◌-◌, ◌*◌, List, ◌++◌, length, min, slice_get, Some}
use Rattle.grid.specs.Pixels.{side_of}
use Rattle.grid.specs.declared.pixels.TileSide.{TileSide}
use Rattle.draw_list.specs.Picture.{IsPicturePart}
use Rattle.draw_list.specs.Scene.{Scene}
use Rattle.tiling.specs.Grid.{TileGrid, columns_of, rect_at}
use Rattle.tiling.specs.declared.tile_pixels.TilePixels.{TilePixels}

-- The first row of pixels of a tile row.
abbrev pub tile_row_top : TileGrid → ℕ → ℕ
tile_row_top g row = side_of g.side * row

-- How many rows of pixels a tile row has: those of its tiles, cut to the picture.
abbrev pub tile_row_height : TileGrid → ℕ → ℕ
tile_row_height g row = min g.height (tile_row_top g row + side_of g.side) - tile_row_top g row

-- The first column of pixels of the tiles in this column of tiles.
abbrev pub column_left : TileGrid → ℕ → ℕ
column_left g column = side_of g.side * column

-- How many columns of pixels the tiles in this column of tiles have: those of a tile, cut to the picture.
abbrev pub column_width : TileGrid → ℕ → ℕ
column_width g column = min g.width (column_left g column + side_of g.side) - column_left g column

-- The pixels of the tile in this column of a tile row: its rectangle, and the picture's bytes in it.
pub record IsColumn (l : Scene) (g : TileGrid) (row column : ℕ) (pixels : TilePixels) : Type 0 where
  pub rect : pixels.rect ≡ rect_at g column row
  pub part : IsPicturePart l (column_left g column) (tile_row_top g row) (column_width g column) (tile_row_height g row) pixels.bytes.items

-- The pixels of all tiles of a tile row, from left to right.
pub record AreColumns (l : Scene) (g : TileGrid) (row : ℕ) (tiles : List TilePixels) : Type 0 where
  pub number : length tiles ≡ columns_of g
  pub each : (column : ℕ) (pixels : TilePixels) → slice_get tiles column ≡ Some pixels → IsColumn l g row column pixels

-- The bytes of a tile row's rows of pixels.
abbrev pub IsTileRow : Scene → TileGrid → ℕ → List ℕ → Type 0
IsTileRow l g row bytes = IsPicturePart l 0 (tile_row_top g row) l.width (tile_row_height g row) bytes

-- The new bytes are the old ones, and behind them those of a tile row.
pub record AddsTileRow (l : Scene) (g : TileGrid) (row : ℕ) (old new : List ℕ) : Type 0 where
  pub bytes : List ℕ
  pub is : IsTileRow l g row bytes
  pub behind : new ≡ old ++ bytes

-- The bytes of the rows of pixels in the tile rows from `first` to before `end`, with tiles of this size.
abbrev pub AreTileRows : Scene → TileSide → ℕ → ℕ → List ℕ → Type 0
AreTileRows l side first end bytes = IsPicturePart l 0 (side_of side * first) l.width (min l.height (side_of side * end) - side_of side * first) bytes

-- The new bytes are the old ones, and behind them those of these tile rows.
pub record AddsTileRows (l : Scene) (side : TileSide) (first end : ℕ) (old new : List ℕ) : Type 0 where
  pub bytes : List ℕ
  pub are : AreTileRows l side first end bytes
  pub behind : new ≡ old ++ bytes
