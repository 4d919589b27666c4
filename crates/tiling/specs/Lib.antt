-- The definitions of this crate, each file behind those that it uses; `python3 -m tools.definitions` writes these lines.
--
-- Grid.antt
--   TileGrid: The width and height of a picture in pixels, and its tile size.
--   tiles_over: How many tiles reach over this many pixels: the quotient by the tile size, rounded up.
--   columns_of: How many columns of tiles the picture has.
--   rows_of: How many rows of tiles the picture has.
--   tiles_of: How many tiles the picture has.
--   rect_at: The pixels of the tile of this column and row of tiles: a square, cut to the picture.
--   rect_of: The pixels of tile k, which stands in column k % columns and row k / columns of tiles.
--   IsTileOf: Pixel (i, j) is in the rectangle of tile k, and of no other tile.
--   IsInPicture: Pixel (i, j) is in the picture.
--   IsWithinLimits: A picture is at most 4096 by 4096 pixels, and not empty (this project's limits).
--
-- Pixels.antt
--   IsPictureIn: The bytes of the picture in a rectangle, row by row.
--   AddsPixelRun: The new bytes are the old ones, and behind them those of `many` pixels of one row of the picture, from pixel (i, j) on.
--
-- TileRow.antt
--   tile_row_top: The first row of pixels of a tile row.
--   tile_row_height: How many rows of pixels a tile row has: those of its tiles, cut to the picture.
--   column_left: The first column of pixels of the tiles in this column of tiles.
--   column_width: How many columns of pixels the tiles in this column of tiles have: those of a tile, cut to the picture.
--   IsColumn: The pixels of the tile in this column of a tile row: its rectangle, and the picture's bytes in it.
--   AreColumns: The pixels of all tiles of a tile row, from left to right.
--   IsTileRow: The bytes of a tile row's rows of pixels.
--   AddsTileRow: The new bytes are the old ones, and behind them those of a tile row.
--   AreTileRows: The bytes of the rows of pixels in the tile rows from `first` to before `end`, with tiles of this size.
--   AddsTileRows: The new bytes are the old ones, and behind them those of these tile rows.
--
-- Tiles.antt
--   IsTileIn: The pixels of the tile of this number, if the tiles are counted row by row from a first tile row on.
--   AreTiles: The pixels of all tiles in the tile rows from `first` to before `end`, row by row.

pub mod Grid
pub mod Pixels
pub mod TileRow
pub mod Tiles
