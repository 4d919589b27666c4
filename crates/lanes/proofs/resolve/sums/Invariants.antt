use Rattle.std.proofs.Common.{ℕ, ◌+◌, ◌≤◌, List, length, slice_index}
use Rattle.lanes.specs.declared.block_samples.BlockSamples.{BlockSamples}
use Rattle.lanes.specs.BlockMask.{plane_of}
use Rattle.lanes.specs.Sums.{AreSums}
use Rattle.lanes.proofs.resolve.sums.Given as goal

abbrev pub red_of : List BlockSamples → ℕ → ℕ → ℕ → ℕ
red_of samples at s i = slice_index (plane_of samples s).r (at + i)

abbrev pub green_of : List BlockSamples → ℕ → ℕ → ℕ → ℕ
green_of samples at s i = slice_index (plane_of samples s).g (at + i)

abbrev pub blue_of : List BlockSamples → ℕ → ℕ → ℕ → ℕ
blue_of samples at s i = slice_index (plane_of samples s).b (at + i)

-- the sums of the samples before s
pub record AreSumsBefore (samples : List BlockSamples) (at s : ℕ) (reds greens blues : List ℕ) : Type 0 where
  pub within : s ≤ length samples
  pub red : AreSums reds s (red_of samples at)
  pub green : AreSums greens s (green_of samples at)
  pub blue : AreSums blues s (blue_of samples at)

abbrev pub invariant-loop-s : goal.invariant-loop-s
invariant-loop-s l = AreSumsBefore l.samples l.at l.s l.red l.green l.blue
