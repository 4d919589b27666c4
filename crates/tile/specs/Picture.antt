-- A tile's part of the picture.
use Rattle.std.specs.Prelude.{◌≡◌, ℕ, ◌+◌, ◌*◌, ◌/◌, ◌%◌, ◌<◌, List, slice_index, Option, IfSome}
use Rattle.grid.specs.Pixels.{side_of}
use Rattle.lanes.specs.declared.block_samples.BlockSamples.{BlockSamples}
use Rattle.shade.specs.declared.sample.Sample.{Sample}
use Rattle.shade.specs.Placed.{Meets}
use Rattle.shade.specs.Canvas.{colour_and_depth}
use Rattle.draw_list.specs.Scene.{Scene}
use Rattle.draw_list.specs.Picture.{IsEnd}
use Rattle.tiling.specs.Grid.{TileGrid, columns_of}
use Rattle.bins.specs.Bin.{IsBin}
use Rattle.raster.specs.declared.tile.Tile.{Tile}
use Rattle.raster.specs.Samples.{IsSampleOf, stored}
use Rattle.raster.specs.Colours.{AreColoursAt}

-- The tile lies where tile k of the picture does, and has its size.
pub record IsTileAt (g : TileGrid) (k : ℕ) (tile : Tile) : Type 0 where
  pub left : 8 * tile.bx ≡ side_of g.side * (k % columns_of g)
  pub top : 8 * tile.by ≡ side_of g.side * (k / columns_of g)
  pub side : tile.side ≡ g.side

-- A sample of the tile whose pixel is in the picture.
pub record IsShown (l : Scene) (tile : Tile) (row column s : ℕ) : Type 0 where
  pub sample : IsSampleOf tile row column s
  pub in_width : 8 * tile.bx + column < l.width
  pub in_height : 8 * tile.by + row < l.height

-- The numbers are a bin of each sample of the tile whose pixel is in the picture.
abbrev pub IsTileBin : Scene → Tile → List ℕ → Type 0
IsTileBin l tile numbers =
    (row column s : ℕ) → IsShown l tile row column s → IsBin l (λ t. Meets t l.count (8 * tile.bx + column) (8 * tile.by + row) s) numbers

-- Sample s of the pixel in a row and a column of the tile, as it is stored, but without its alpha.
abbrev pub stored_sample : Tile → List BlockSamples → ℕ → ℕ → ℕ → Sample
stored_sample tile samples row column s = colour_and_depth (stored tile samples row column s)

-- The samples whose pixels are in the picture have their final values.
abbrev pub AreEnds : Scene → Tile → List BlockSamples → Type 0
AreEnds l tile samples =
    (row column s : ℕ) → IsShown l tile row column s → IsEnd l (8 * tile.bx + column) (8 * tile.by + row) s (stored_sample tile samples row column s)

-- The bytes of the depths of the eight pixels in a row of the tile and a column of its blocks. Of each pixel they are the more and
-- the less significant byte of the depth of sample 0.
abbrev pub AreDepthsAt : Tile → List BlockSamples → ℕ → ℕ → List ℕ → Type 0
AreDepthsAt tile samples row column bytes =
    (i : ℕ) → i < 8
    → (slice_index bytes (2 * i) ≡ (stored_sample tile samples row (8 * column + i) 0).z / 256) × (slice_index bytes (2 * i + 1) ≡ (stored_sample tile samples row (8 * column + i) 0).z % 256)

-- The bytes, if there are some, are those of any eight pixels in a row of the tile and a column of its blocks.
abbrev pub IsSameRun : Tile → List BlockSamples → Option (List ℕ) → Type 0
IsSameRun tile samples run =
    IfSome run (λ bytes. (row column : ℕ) → row < side_of tile.side → column < side_of tile.side / 8 → AreColoursAt tile samples row column bytes)
