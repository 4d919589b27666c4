use Rattle.std.proofs.Common.{◌≡◌, ℕ, ◌*◌, ◌≤◌, List}
use Rattle.shade.specs.declared.sample.Sample.{Sample}
use Rattle.shade.specs.Mean.{sample_of}
use Rattle.shade.specs.Resolve.{total}
use Rattle.shade.proofs.resolve.resolved_colour.Given as goal

-- the sum of a channel of the samples before s
pub record IsSumBefore (s sum : ℕ) (channel : ℕ → ℕ) : Type 0 where
  pub is : sum ≡ total s channel
  pub most : sum ≤ 255 * s

-- the sums of the samples before s
pub record AreSumsBefore (samples : List Sample) (s reds greens blues : ℕ) : Type 0 where
  pub red : IsSumBefore s reds (λ k. (sample_of samples k).r)
  pub green : IsSumBefore s greens (λ k. (sample_of samples k).g)
  pub blue : IsSumBefore s blues (λ k. (sample_of samples k).b)

abbrev pub invariant-loop-s : goal.invariant-loop-s
invariant-loop-s l = AreSumsBefore l.samples l.s l.red l.green l.blue
