-- Tiles that are kept as they were cleared.
use Rattle.std.specs.Prelude.{ℕ, ◌-◌, ◌*◌, ◌<◌, List, take, drop}
use Rattle.shade.specs.declared.sample.CanvasSample.{CanvasSample}
use Rattle.lanes.specs.declared.block_samples.BlockSamples.{BlockSamples}
use Rattle.canvas.specs.declared.canvas.Canvas.{Canvas}
use Rattle.blocks.specs.Layout.{planes_of_tile, IsUniformTile}
use Rattle.canvas.specs.Layout.{HasTile, planes_of_row}

-- The planes of the tile in a column and a row of tiles.
abbrev pub planes_in : Canvas → ℕ → ℕ → ℕ → List BlockSamples → List BlockSamples
planes_in c first column row samples =
    take (planes_of_tile c.count) (drop (column * planes_of_tile c.count) (take (planes_of_row c) (drop ((row - first) * planes_of_row c) samples)))

-- All blocks of the tile in a column and a row of tiles are cleared, and all of its samples have one id.
abbrev pub IsUniform : Canvas → ℕ → ℕ → ℕ → List BlockSamples → Type 0
IsUniform c first column row samples = IsUniformTile c.count (planes_in c first column row samples)

-- Each tile of the tile rows from `first` to before `end` is uniform.
abbrev pub AreUniform : Canvas → ℕ → ℕ → List BlockSamples → Type 0
AreUniform c first end samples = (column row : ℕ) → HasTile c first end column row → IsUniform c first column row samples

-- The channels of the sample are bytes.
pub record HasBytes (sample : CanvasSample) : Type 0 where
  pub red : sample.r < 256
  pub green : sample.g < 256
  pub blue : sample.b < 256
