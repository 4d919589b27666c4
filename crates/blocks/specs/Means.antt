-- The means of the samples of a block's pixels.
use Rattle.std.specs.Prelude.{◌≡◌, ℕ, List}
use Rattle.grid.specs.declared.sample_count.SampleCount.{SampleCount}
use Rattle.shade.specs.Resolve.{IsResolved}
use Rattle.shade.specs.declared.sample.CanvasSample.{CanvasSample}
use Rattle.lanes.specs.declared.block_samples.BlockSamples.{BlockSamples}
use Rattle.lanes.specs.Block.{stored_at}
use Rattle.blocks.specs.Layout.{block_in_tile, pixel_in_block, stored_in_tile}

-- The colour and the alpha of a sample are resolved from these samples.
pub record IsMeanOf (count : SampleCount) (samples : ℕ → CanvasSample) (mean : CanvasSample) : Type 0 where
  pub red : IsResolved count (λ s. (samples s).r) mean.r
  pub green : IsResolved count (λ s. (samples s).g) mean.g
  pub blue : IsResolved count (λ s. (samples s).b) mean.b
  pub alpha : IsResolved count (λ s. (samples s).alpha) mean.alpha

-- The plane has the mean of the samples of each pixel of block k of the tile with these planes.
abbrev pub HasMeansOf : SampleCount → List BlockSamples → ℕ → BlockSamples → Type 0
HasMeansOf count samples k plane =
    (i j : ℕ) → block_in_tile i j ≡ k → IsMeanOf count (λ s. stored_in_tile count samples i j s) (stored_at plane (pixel_in_block i j))
