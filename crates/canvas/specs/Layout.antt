-- Where the samples of a picture lie, in planes that the caller keeps.
use Rattle.std.specs.Prelude.{ℕ, ◌+◌, ◌-◌, ◌*◌, ◌/◌, ◌<◌, ◌≤◌, List, [], slice_index_or}
use Rattle.grid.specs.Samples.{count_of}
use Rattle.shade.specs.declared.sample.CanvasSample.{CanvasSample}
use Rattle.lanes.specs.declared.block_samples.BlockSamples.{BlockSamples}
use Rattle.canvas.specs.declared.canvas.Canvas.{Canvas}
use Rattle.blocks.specs.declared.way.Way.{Way}
use Rattle.blocks.specs.Layout.{planes_of_tile, block_in_tile, way_of, sample_in}

-- A picture is at most 4096 by 4096 pixels, and not empty (this project's limits).
pub record IsCanvasSize (width height : ℕ) : Type 0 where
  pub some_columns : 1 ≤ width
  pub few_columns : width ≤ 4096
  pub some_rows : 1 ≤ height
  pub few_rows : height ≤ 4096

-- How many columns of tiles the picture has: its width by the 64 pixels of a tile, rounded up.
abbrev pub columns_of : Canvas → ℕ
columns_of c = (c.width + 63) / 64

-- How many rows of tiles the picture has: its height by the 64 pixels of a tile, rounded up.
abbrev pub rows_of : Canvas → ℕ
rows_of c = (c.height + 63) / 64

-- How many planes a tile row has.
abbrev pub planes_of_row : Canvas → ℕ
planes_of_row c = columns_of c * planes_of_tile c.count

-- How many planes the tile rows from `first` to before `end` have.
abbrev pub planes_of_rows : Canvas → ℕ → ℕ → ℕ
planes_of_rows c first end = (end - first) * planes_of_row c

-- Sample s of pixel (i, j) is in a tile of the tile rows from `first` to before `end`. The tiles at the right and the lower border
-- have samples of pixels to the right of the picture and below it too.
pub record IsStoredIn (c : Canvas) (first end : ℕ) (i j s : ℕ) : Type 0 where
  pub column : i / 64 < columns_of c
  pub from : first ≤ j / 64
  pub below : j / 64 < end
  pub is_sample : s < count_of c.count

-- Pixel (i, j) is in the picture, and in a tile of the tile rows from `first` to before `end`.
pub record HasPixel (c : Canvas) (first end : ℕ) (i j : ℕ) : Type 0 where
  pub column : i < c.width
  pub row : j < c.height
  pub from : first ≤ j / 64
  pub below : j / 64 < end

-- These tile rows have a tile in a column and a row of tiles.
pub record HasTile (c : Canvas) (first end : ℕ) (column row : ℕ) : Type 0 where
  pub wide : column < columns_of c
  pub from : first ≤ row
  pub below : row < end

-- Plane k of the tile of pixel (i, j), among those of the tile rows from `first` on. Tiles lie from left to right.
abbrev pub plane_of : Canvas → ℕ → List BlockSamples → ℕ → ℕ → ℕ → BlockSamples
plane_of c first samples i j k =
    slice_index_or samples ((j / 64 - first) * planes_of_row c + i / 64 * planes_of_tile c.count + k) (record { z = []; r = []; g = []; b = []; alpha = [] })

-- Sample s of pixel (i, j), as it is stored.
abbrev pub stored : Canvas → ℕ → List BlockSamples → ℕ → ℕ → ℕ → CanvasSample
stored c first samples i j s = sample_in c.count (plane_of c first samples i j) i j s

-- The way in which the block of pixel (i, j) keeps its samples, by the planes of its tile row.
abbrev pub way_in_row : Canvas → List BlockSamples → ℕ → ℕ → Way
way_in_row c samples i j = way_of (plane_of c (j / 64) samples i j 0) (block_in_tile i j)
