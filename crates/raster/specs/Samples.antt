-- The samples of a tile, and where they lie.
use Rattle.std.specs.Prelude.{◌≡◌, ℕ, ◌+◌, ◌*◌, ◌/◌, ◌%◌, ◌<◌, List, [], length, slice_index_or}
use Rattle.grid.specs.Pixels.{side_of}
use Rattle.grid.specs.Samples.{count_of}
use Rattle.grid.specs.declared.pixels.TileSide.{TileSide}
use Rattle.grid.specs.declared.sample_count.SampleCount.{SampleCount}
use Rattle.shade.specs.declared.sample.CanvasSample.{CanvasSample}
use Rattle.lanes.specs.declared.block_samples.BlockSamples.{BlockSamples}
use Rattle.lanes.specs.Block.{stored_at}
use Rattle.raster.specs.declared.tile.Tile.{Tile}

-- How many planes of samples a tile has: for each block of 8 by 8 pixels one for each sample of a pixel.
abbrev pub planes_of : TileSide → SampleCount → ℕ
planes_of side count = side_of side / 8 * (side_of side / 8) * count_of count

-- The tile has a sample s of a pixel in this row and this column.
pub record IsSampleOf (tile : Tile) (row column s : ℕ) : Type 0 where
  pub high : row < side_of tile.side
  pub wide : column < side_of tile.side
  pub is_sample : s < count_of tile.count

-- The index of the plane of samples s of the block in a row and a column of the tile's blocks. Blocks lie row by row, in a row
-- block by block, and in a block sample by sample.
abbrev pub place_of : Tile → ℕ → ℕ → ℕ → ℕ
place_of tile row column s = (row * (side_of tile.side / 8) + column) * count_of tile.count + s

-- Each sample of these planes is this one.
abbrev pub AreAll : List BlockSamples → CanvasSample → Type 0
AreAll samples sample =
    (place k : ℕ) → place < length samples → k < 64 → stored_at (slice_index_or samples place (record { z = []; r = []; g = []; b = []; alpha = [] })) k ≡ sample

-- Sample s of the pixel in a row and a column of the tile, as it is stored.
abbrev pub stored : Tile → List BlockSamples → ℕ → ℕ → ℕ → CanvasSample
stored tile samples row column s =
    stored_at (slice_index_or samples (place_of tile (row / 8) (column / 8) s) (record { z = []; r = []; g = []; b = []; alpha = [] })) (8 * (row % 8) + column % 8)
