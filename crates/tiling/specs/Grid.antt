-- The tiles of a picture.
use Rattle.std.specs.Prelude.{◌≡◌, ℕ, ◌+◌, ◌-◌, ◌*◌, ◌/◌, ◌%◌, ◌<◌, ◌≤◌, min, pos}
use Rattle.grid.specs.Pixels.{side_of, IsInBox}
use Rattle.grid.specs.declared.pixels.PixelBox.{PixelBox}
use Rattle.grid.specs.declared.pixels.TileSide.{TileSide}

-- The width and height of a picture in pixels, and its tile size.
pub record TileGrid : Type 0 where
  pub width : ℕ
  pub height : ℕ
  pub side : TileSide

-- How many tiles reach over this many pixels: the quotient by the tile size, rounded up.
abbrev pub tiles_over : ℕ → TileSide → ℕ
tiles_over pixels side = (pixels + side_of side - 1) / side_of side

-- How many columns of tiles the picture has.
abbrev pub columns_of : TileGrid → ℕ
columns_of g = tiles_over g.width g.side

-- How many rows of tiles the picture has.
abbrev pub rows_of : TileGrid → ℕ
rows_of g = tiles_over g.height g.side

-- How many tiles the picture has.
abbrev pub tiles_of : TileGrid → ℕ
tiles_of g = columns_of g * rows_of g

-- The pixels of the tile of this column and row of tiles: a square, cut to the picture.
abbrev pub rect_at : TileGrid → ℕ → ℕ → PixelBox
rect_at g column row =
    let side = side_of g.side in record {
      x0 = pos (side * column);
      y0 = pos (side * row);
      x1 = pos (min g.width (side * column + side));
      y1 = pos (min g.height (side * row + side));
    }

-- The pixels of tile k, which stands in column k % columns and row k / columns of tiles.
abbrev pub rect_of : TileGrid → ℕ → PixelBox
rect_of g k = rect_at g (k % columns_of g) (k / columns_of g)

-- Pixel (i, j) is in the rectangle of tile k, and of no other tile.
pub record IsTileOf (g : TileGrid) (i j k : ℕ) : Type 0 where
  pub tile : k < tiles_of g
  pub inside : IsInBox (rect_of g k) i j
  pub only : (other : ℕ) → other < tiles_of g → IsInBox (rect_of g other) i j → other ≡ k

-- Pixel (i, j) is in the picture.
pub record IsInPicture (g : TileGrid) (i j : ℕ) : Type 0 where
  pub column : i < g.width
  pub row : j < g.height

-- A picture is at most 4096 by 4096 pixels, and not empty (this project's limits).
pub record IsWithinLimits (g : TileGrid) : Type 0 where
  pub wide : 1 ≤ g.width
  pub width : g.width ≤ 4096
  pub high : 1 ≤ g.height
  pub height : g.height ≤ 4096
