-- Strips of the screen: 64 rows of pixels.
use Rattle.std.specs.Prelude.{ℕ, ◌+◌, ◌*◌, ◌<◌, ℤ, pos, List, slice_index_or}
use Rattle.grid.specs.Position.{Position}
use Rattle.grid.specs.Samples.{part_size}
use Rattle.polygons.specs.declared.strip.Strip.{Strip}
use Rattle.polygons.specs.Blocks.{down}
use Rattle.polygons.specs.Columns.{along}
use Rattle.polygons.specs.Pixels.{IsFirstPixel}
use Rattle.polygons.specs.Screen.{screen_sample}
use Rattle.polygons.specs.Short.{AreNearRows}

-- Where the first pixel of a strip has sample s.
abbrev pub start_of : Strip → ℕ → Position
start_of strip s = screen_sample strip.column strip.row s strip.count

-- Where the pixel in a row and a column of a strip has sample s.
abbrev pub strip_sample : Strip → ℕ → ℕ → ℕ → Position
strip_sample strip s row column = along (down (start_of strip s) row) (pos column)

-- Of each sample of a part, the first row of a strip that is not above the height y.
pub record AreFirstRows (strip : Strip) (part : ℕ) (y : ℤ) (rows : List ℤ) : Type 0 where
  pub near : AreNearRows rows
  pub first : (s : ℕ) → s < part_size strip.count → IsFirstPixel (start_of strip (4 * part + s)).y y (slice_index_or rows s (pos 0))
