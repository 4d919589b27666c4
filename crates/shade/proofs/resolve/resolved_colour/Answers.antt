use Rattle.std.proofs.Common.{◌≡◌, refl, subst, ℕ, suc, ◌+◌, ◌<◌, ◌≤◌, arith}
use Rattle.grid.specs.Samples.{count_of}
use Rattle.grid.specs.declared.sample_count.SampleCount.{SampleCount}
use Rattle.shade.specs.Resolve.{total}
use Rattle.shade.proofs.Resolved.{few_samples}
use Rattle.shade.proofs.resolve.resolved_colour.Invariants.{IsSumBefore}
use Rattle.shade.proofs.resolve.resolved_colour.Goals as goal

no_sum : (channel : ℕ → ℕ) → IsSumBefore 0 0 channel
no_sum channel = record { is = refl; most = omega arith }

one_more : (s sum x new : ℕ) (channel : ℕ → ℕ) → IsSumBefore s sum channel → new ≡ sum + x → new ≤ sum + 255 → x ≡ channel s → IsSumBefore (s + 1) new channel
one_more s sum x new channel h e most is = record {
  is =
      let one : suc s ≡ s + 1 = omega arith in
      subst (λ n. new ≡ total n channel) one (rw (e, h.is, is) refl);
  most = omega (arith, h.most, most);
}

small : (count : SampleCount) (s n sum : ℕ) (channel : ℕ → ℕ) → IsSumBefore s sum channel → s < n → n ≡ count_of count → sum ≤ 4080
small count s n sum channel h l e = omega (arith, h.most, few_samples count, l, e)

whole : (count : SampleCount) (s n sum : ℕ) (channel : ℕ → ℕ) → IsSumBefore s sum channel → s ≡ n → n ≡ count_of count → IsSumBefore (count_of count) sum channel
whole count s n sum channel h e k = rw (e, k) at h

pub loop-s-init : goal.loop-s-init
loop-s-init c = record { red = no_sum _; green = no_sum _; blue = no_sum _ }

pub with_channel-red-requires : goal.with_channel-red-requires
with_channel-red-requires c = small c.args.count c.loop-s.s _ _ _ c.loop-s.invariant.red c.loop-s-test.true c.count-s-end.ensures

pub with_channel-green-requires : goal.with_channel-green-requires
with_channel-green-requires c = small c.args.count c.loop-s.s _ _ _ c.loop-s.invariant.green c.loop-s-test.true c.count-s-end.ensures

pub with_channel-blue-requires : goal.with_channel-blue-requires
with_channel-blue-requires c = small c.args.count c.loop-s.s _ _ _ c.loop-s.invariant.blue c.loop-s-test.true c.count-s-end.ensures

pub loop-s-preserved : goal.loop-s-preserved
loop-s-preserved c = record {
  red = one_more c.loop-s.s _ _ _ _ c.loop-s.invariant.red c.with_channel-red.ensures.sum c.with_channel-red.ensures.most refl;
  green = one_more c.loop-s.s _ _ _ _ c.loop-s.invariant.green c.with_channel-green.ensures.sum c.with_channel-green.ensures.most refl;
  blue = one_more c.loop-s.s _ _ _ _ c.loop-s.invariant.blue c.with_channel-blue.ensures.sum c.with_channel-blue.ensures.most refl;
}
