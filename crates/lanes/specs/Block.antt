-- The samples of a block of 8 by 8 pixels.
use Rattle.std.specs.Prelude.{◌≡◌, ℕ, ◌+◌, ◌<◌, ◌≤◌, IsBitSet, ◌^◌, pos, ◌+ℤ◌, ◌≤ℤ◌, ◌<ℤ◌, slice_index}
use Rattle.grid.specs.Position.{Position}
use Rattle.gradients.specs.Multiple.{IsSixteenth}
use Rattle.grid.specs.Triangle.{Covers}
use Rattle.shade.specs.declared.sample.CanvasSample.{CanvasSample}
use Rattle.shade.specs.declared.placed.Placed.{Placed}
use Rattle.gradients.specs.Group.{position_in}
use Rattle.lanes.specs.declared.block_samples.BlockSamples.{BlockSamples}

-- The stored sample of pixel k, counted row by row.
abbrev pub stored_at : BlockSamples → ℕ → CanvasSample
stored_at s k = record { r = slice_index s.r k; g = slice_index s.g k; b = slice_index s.b k; alpha = slice_index s.alpha k; z = slice_index s.z k }

-- A block whose first sample is at p lies on the screen, which is 4096 by 4096 pixels.
pub record IsOnScreen (p : Position) : Type 0 where
  pub left : pos 0 ≤ℤ p.x
  pub top : pos 0 ≤ℤ p.y
  pub right : (p.x +ℤ pos 1792) <ℤ pos (2 ^ 20)
  pub bottom : (p.y +ℤ pos 1792) <ℤ pos (2 ^ 20)
  pub sixteenth_x : IsSixteenth p.x
  pub sixteenth_y : IsSixteenth p.y

-- The triangle covers the samples in the mask, of a block whose first sample is at p.
abbrev pub CoversMask : Placed → Position → ℕ → Type 0
CoversMask t p mask = (k : ℕ) → k < 64 → IsBitSet mask k → Covers t.tri.a t.tri.b t.tri.c (position_in p k)

-- Of the n samples from k on those in the mask become what D says of their points, and all other samples are unchanged.
pub record AreDrawn (D : Position → CanvasSample → CanvasSample → Type 0) (p : Position) (mask : ℕ) (old new : BlockSamples) (k n : ℕ) : Type 0 where
  pub drawn : (j : ℕ) → k ≤ j → j < k + n → IsBitSet mask j → D (position_in p j) (stored_at old j) (stored_at new j)
  pub kept : (j : ℕ) → k ≤ j → j < k + n → ¬ IsBitSet mask j → stored_at new j ≡ stored_at old j
  pub below : (j : ℕ) → j < k → stored_at new j ≡ stored_at old j
  pub above : (j : ℕ) → k + n ≤ j → j < 64 → stored_at new j ≡ stored_at old j
