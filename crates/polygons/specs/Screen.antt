-- Samples of the screen's pixels, also left of the screen and above it.
use Rattle.std.specs.Prelude.{ℕ, ℤ, pos, negsuc, ◌+ℤ◌, ◌*ℤ◌, ◌≤ℤ◌, slice_index}
use Rattle.grid.specs.Position.{Position}
use Rattle.grid.specs.Samples.{offsets_x, offsets_y}
use Rattle.grid.specs.declared.sample_count.SampleCount.{SampleCount}

-- The pixels of a column or a row of the screen lie inside of the guard band.
pub record IsPixelInBand (i : ℤ) : Type 0 where
  pub low : negsuc 32767 ≤ℤ i
  pub high : i ≤ℤ pos 32767

-- The position of sample s of pixel (i, j) of the screen, whose upper left corner is at (256 i, 256 j).
abbrev pub screen_sample : ℤ → ℤ → ℕ → SampleCount → Position
screen_sample i j s count = record {
  x = pos 256 *ℤ i +ℤ pos (slice_index (offsets_x count) s);
  y = pos 256 *ℤ j +ℤ pos (slice_index (offsets_y count) s);
}
