-- The tiles of tile rows, counted row by row.
use Rattle.std.specs.Prelude.{◌≡◌, ℕ, ◌+◌, ◌-◌, ◌*◌, ◌/◌, ◌%◌, List, length, slice_get, Some}
use Rattle.draw_list.specs.Scene.{Scene}
use Rattle.tiling.specs.Grid.{TileGrid, columns_of}
use Rattle.tiling.specs.declared.tile_pixels.TilePixels.{TilePixels}
use Rattle.tiling.specs.TileRow.{IsColumn}

-- The pixels of the tile of this number, if the tiles are counted row by row from a first tile row on.
abbrev pub IsTileIn : Scene → TileGrid → ℕ → ℕ → TilePixels → Type 0
IsTileIn l g first n pixels = IsColumn l g (first + n / columns_of g) (n % columns_of g) pixels

-- The pixels of all tiles in the tile rows from `first` to before `end`, row by row.
pub record AreTiles (l : Scene) (g : TileGrid) (first end : ℕ) (tiles : List TilePixels) : Type 0 where
  pub number : length tiles ≡ (end - first) * columns_of g
  pub each : (n : ℕ) (pixels : TilePixels) → slice_get tiles n ≡ Some pixels → IsTileIn l g first n pixels
