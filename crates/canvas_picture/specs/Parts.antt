-- Tile rows in two parts, one below the other.
use Rattle.std.specs.Prelude.{◌≡◌, ℕ, ◌-◌, ◌*◌, ◌≤◌, List, length}
use Rattle.lanes.specs.declared.block_samples.BlockSamples.{BlockSamples}
use Rattle.canvas.specs.declared.canvas.Canvas.{Canvas}
use Rattle.canvas.specs.Layout.{planes_of_rows}

-- These are the planes of the tile rows from `first` to before `at`, the upper part of those from `first` to before `end`.
pub record AreUpper (c : Canvas) (first at end : ℕ) (samples : List BlockSamples) : Type 0 where
  pub from : first ≤ at
  pub to : at ≤ end
  pub size : length samples ≡ planes_of_rows c first at

-- These are the entries of the rows of pixels of the upper part, `unit` entries a pixel. The rows begin `stride` entries apart, and
-- the next row is the first one of the lower part.
pub record AreUpperRows (c : Canvas) (first at unit stride : ℕ) (entries : List ℕ) : Type 0 where
  pub wide : c.width * unit ≤ stride
  pub size : length entries ≡ (64 * at - 64 * first) * stride
