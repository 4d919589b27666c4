use Rattle.std.proofs.Common.{◌≡◌, ℕ, length, subst, arith}
use Rattle.lanes.specs.Sums.{AreSums}
use Rattle.lanes.proofs.Rows.{none_added, one_added, few_yet}
use Rattle.lanes.proofs.resolve.sums.Invariants.{red_of, green_of, blue_of}
use Rattle.lanes.proofs.resolve.sums.Goals as goal

pub loop-s-init : goal.loop-s-init
loop-s-init c =
    record { within = omega arith; red = none_added (red_of c.args.samples.now c.args.at); green = none_added (green_of c.args.samples.now c.args.at); blue = none_added (blue_of c.args.samples.now c.args.at) }

pub with_row-red-requires-clause-small : goal.with_row-red-requires-clause-small
with_row-red-requires-clause-small c = few_yet _ c.loop-s.s (length c.args.samples.now) (red_of c.args.samples.now c.args.at) c.loop-s.invariant.red c.loop-s-test.true c.requires.few

pub with_row-green-requires-clause-small : goal.with_row-green-requires-clause-small
with_row-green-requires-clause-small c = few_yet _ c.loop-s.s (length c.args.samples.now) (green_of c.args.samples.now c.args.at) c.loop-s.invariant.green c.loop-s-test.true c.requires.few

pub with_row-blue-requires-clause-small : goal.with_row-blue-requires-clause-small
with_row-blue-requires-clause-small c = few_yet _ c.loop-s.s (length c.args.samples.now) (blue_of c.args.samples.now c.args.at) c.loop-s.invariant.blue c.loop-s-test.true c.requires.few

pub loop-s-preserved : goal.loop-s-preserved
loop-s-preserved c =
    let xs = c.args.samples.now in
    let at = c.args.at in
    let s = c.loop-s.s in
    record {
      within = omega (arith, c.loop-s-test.true);
      red = one_added c.loop-s.red _ s (red_of xs at) c.loop-s.invariant.red c.with_row-red.ensures.whole c.with_row-red.ensures.each c.with_row-red.ensures.most;
      green = one_added c.loop-s.green _ s (green_of xs at) c.loop-s.invariant.green c.with_row-green.ensures.whole c.with_row-green.ensures.each c.with_row-green.ensures.most;
      blue = one_added c.loop-s.blue _ s (blue_of xs at) c.loop-s.invariant.blue c.with_row-blue.ensures.whole c.with_row-blue.ensures.each c.with_row-blue.ensures.most;
    }

pub returns-clause-red : goal.returns-clause-red
returns-clause-red c =
    let whole : c.loop-s.s ≡ length c.args.samples.now = omega (arith, c.loop-s-test.false, c.loop-s.invariant.within) in
    subst (λ (n : ℕ). AreSums c.loop-s.red n (red_of c.args.samples.now c.args.at)) whole c.loop-s.invariant.red

pub returns-clause-green : goal.returns-clause-green
returns-clause-green c =
    let whole : c.loop-s.s ≡ length c.args.samples.now = omega (arith, c.loop-s-test.false, c.loop-s.invariant.within) in
    subst (λ (n : ℕ). AreSums c.loop-s.green n (green_of c.args.samples.now c.args.at)) whole c.loop-s.invariant.green

pub returns-clause-blue : goal.returns-clause-blue
returns-clause-blue c =
    let whole : c.loop-s.s ≡ length c.args.samples.now = omega (arith, c.loop-s-test.false, c.loop-s.invariant.within) in
    subst (λ (n : ℕ). AreSums c.loop-s.blue n (blue_of c.args.samples.now c.args.at)) whole c.loop-s.invariant.blue
