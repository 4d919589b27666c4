use Rattle.grid.specs.declared.pixels.TileSide.{TileSide}
use Rattle.grid.specs.declared.sample_count.SampleCount.{SampleCount}

-- The shape of a tile buffer: tile size and samples per pixel. Its contents are unspecified.
pub record Room : Type 0 where
  pub side : TileSide
  pub count : SampleCount
