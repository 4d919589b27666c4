-- Sixteen samples of two rows of eight pixels.
use Rattle.std.specs.Prelude.{ℕ, pos, ◌*◌, ◌/◌, ◌%◌, ◌^◌, ◌≤ℤ◌, ◌<ℤ◌, ◌+ℤ◌}
use Rattle.grid.specs.Position.{Position}
use Rattle.gradients.specs.Multiple.{IsSixteenth}

-- The sample of pixel k of a block whose first pixel has its sample at p: pixel k stands in row k / 8 and column k % 8.
abbrev pub position_in : Position → ℕ → Position
position_in p k = record { x = p.x +ℤ pos (256 * (k % 8)); y = p.y +ℤ pos (256 * (k / 8)) }

-- The group whose first sample is at p lies on the screen, which is 4096 by 4096 pixels.
pub record IsGroupOnScreen (p : Position) : Type 0 where
  pub left : pos 0 ≤ℤ p.x
  pub top : pos 0 ≤ℤ p.y
  pub right : (p.x +ℤ pos 1792) <ℤ pos (2 ^ 20)
  pub bottom : (p.y +ℤ pos 256) <ℤ pos (2 ^ 20)
  pub sixteenth_x : IsSixteenth p.x
  pub sixteenth_y : IsSixteenth p.y
