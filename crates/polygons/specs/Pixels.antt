-- Places that lie a whole number of pixels from another.
use Rattle.std.specs.Prelude.{ℤ, pos, ◌+ℤ◌, ◌*ℤ◌, ◌≤ℤ◌, ◌<ℤ◌}

-- Of the coordinates whole pixels from `start`, the one n pixels behind it is the first that is not before `to`.
pub record IsFirstPixel (start to n : ℤ) : Type 0 where
  pub reached : to ≤ℤ (start +ℤ pos 256 *ℤ n)
  pub first : (start +ℤ pos 256 *ℤ n) <ℤ (to +ℤ pos 256)
