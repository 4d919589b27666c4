-- What the library's calls did. `Means` says which draw list the caller gave, `tile_size` is the number of
-- pixels along one edge of a tile, and `size` is the number of bytes of the caller's buffer.
use Rattle.std.specs.Prelude.{◌≡◌, ℕ, ◌+◌, ◌-◌, ◌*◌, ◌<◌, ◌≤◌, List, ◌++◌, length, drop, min}
use Rattle.grid.specs.Pixels.{side_of}
use Rattle.grid.specs.declared.pixels.TileSide.{TileSide}
use Rattle.checks.specs.Checking.{Checks, done, check, allocate}
use Rattle.list_json.specs.Denotes.{Denotes}
use Rattle.draw_list.specs.Picture.{output_pixel_bytes}
use Rattle.draw_list.specs.Scene.{Scene}
use Rattle.tiling.specs.Grid.{tiles_over}
use Rattle.tiling.specs.TileRow.{AreTileRows}
use Rattle.picture_file.specs.File.{header_of, IsPictureFile}
use Rattle.engine.specs.Picture.{rows_length}
use Rattle.c_abi.specs.declared.status.Status.{Status}
use Rattle.c_abi.specs.declared.status.Status.TheVariants.{OutOfMemory, BufferTooSmall, BadTileSize, BadTileRows}
use Rattle.trirast_c.specs.Texts.{text_checks}
use Rattle.trirast_c.specs.declared.image_info.ImageInfo.{ImageInfo}

-- ---- the picture's bytes in the caller's buffer

-- There are tiles of this size in pixels: 8, 16, 32 or 64.
abbrev pub IsTileSize : ℕ → Type 0
IsTileSize tile_size = (side : TileSide) × (side_of side ≡ tile_size)

-- The buffer begins with the bytes, and holds behind them what it held before.
abbrev pub IsPut : List ℕ → List ℕ → List ℕ → Type 0
IsPut bytes old new = new ≡ bytes ++ drop (length bytes) old

-- The buffer begins with the file of a list's picture, and holds behind it what it held before.
pub record HoldsFile (list : Scene) (old new : List ℕ) : Type 0 where
  pub file : List ℕ
  pub picture : IsPictureFile list file
  pub put : IsPut file old new

-- The buffer begins with the file of the picture of the list that the caller gave. Behind it the buffer holds what it held before.
pub record DrawsFile (Means : Scene → Type 0) (old new : List ℕ) : Type 0 where
  pub list : Scene
  pub means : Means list
  pub holds : HoldsFile list old new

-- The list's picture has these tile rows, at least one.
abbrev pub HasTileRows : Scene → TileSide → ℕ → ℕ → Type 0
HasTileRows list side first end = (first < end) × (end ≤ tiles_over list.height side)

-- The buffer begins with the bytes of the rows of pixels in these tile rows. Behind them it holds what it held before.
pub record HoldsRows (list : Scene) (side : TileSide) (first end : ℕ) (old new : List ℕ) : Type 0 where
  pub has : HasTileRows list side first end
  pub rows : List ℕ
  pub are : AreTileRows list side first end rows
  pub put : IsPut rows old new

-- The buffer begins with the bytes of these tile rows of the list that the caller gave. The tiles have the size that it named, and
-- behind the bytes the buffer holds what it held before.
pub record DrawsRows (Means : Scene → Type 0) (tile_size first end : ℕ) (old new : List ℕ) : Type 0 where
  pub list : Scene
  pub means : Means list
  pub side : TileSide
  pub of_tile : side_of side ≡ tile_size
  pub holds : HoldsRows list side first end old new

-- ---- the image info

-- How many bytes the file of a list's picture has: those of the header, and of each pixel.
abbrev pub file_length : Scene → ℕ
file_length l = length (header_of l.output l.width l.height) + output_pixel_bytes l.output * (l.height * l.width)

-- The width and height of a list's picture in pixels, and the bytes of a pixel, of the header and of the whole file.
pub record IsImageInfo (list : Scene) (info : ImageInfo) : Type 0 where
  pub width : info.width ≡ list.width
  pub height : info.height ≡ list.height
  pub pixel : info.pixel_bytes ≡ output_pixel_bytes list.output
  pub header : info.header_bytes ≡ length (header_of list.output list.width list.height)
  pub file : info.file_bytes ≡ file_length list

-- The image info of the list that the caller gave.
pub record HoldsInfo (Means : Scene → Type 0) (info : ImageInfo) : Type 0 where
  pub list : Scene
  pub means : Means list
  pub is : IsImageInfo list info

-- ---- the checks of calls

-- The checks of a list whose file is drawn: its bytes fit. Then memory is allocated.
abbrev pub file_checks : Scene → ℕ → Checks Status
file_checks l size = check (file_length l ≤ size) BufferTooSmall (allocate OutOfMemory done)

-- The checks of a call that draws the file of a list. That of the buffer is of each list that the text denotes.
abbrev pub picture_checks : List ℕ → ℕ → ℕ → Checks Status
picture_checks json tile_size size =
    check (IsTileSize tile_size) BadTileSize (
    text_checks json (
    check ((l : Scene) → Denotes json l → file_length l ≤ size) BufferTooSmall
    done))

-- The checks of a call that draws tile rows of a list. Those of the rows are of each list that the text denotes.
abbrev pub rows_checks : List ℕ → ℕ → ℕ → ℕ → ℕ → Checks Status
rows_checks json tile_size first end size =
    check (IsTileSize tile_size) BadTileSize (
    text_checks json (
    check ((l : Scene) (side : TileSide) → Denotes json l → side_of side ≡ tile_size → HasTileRows l side first end) BadTileRows (
    check ((l : Scene) (side : TileSide) → Denotes json l → side_of side ≡ tile_size → rows_length l side first end ≤ size) BufferTooSmall
    done)))
