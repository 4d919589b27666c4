use Rattle.std.proofs.Common.{◌≡◌, refl, arith}
use Rattle.grid.specs.Samples.{count_of}
use Rattle.shade.specs.Mean.{sample_of}
use Rattle.shade.proofs.Resolved.{few_samples, some_samples}
use Rattle.draw_list.proofs.Colours.{no_ends, one_end_more, colour_of_ends}
use Rattle.why.proofs.text.push_samples.Goals as goal

pub loop-s-init : goal.loop-s-init
loop-s-init c = no_ends c.args.list.now _ _ _ refl

pub loop-s-preserved : goal.loop-s-preserved
loop-s-preserved c =
    one_end_more c.args.list.now _ _ c.loop-s.s c.loop-s.ends _ (omega (arith, few_samples c.count-count.result, c.count-s-end.ensures, c.loop-s-test.true)) c.loop-s.invariant c.in_ok-ends.ensures

pub returns : goal.returns
returns c =
    let list = c.args.list.now in
    let count = rw c.count-count.ensures at c.count-s-end.ensures in
    let all : c.loop-s.s ≡ count_of list.count = omega (arith, c.loop-s-test.false, c.loop-s.auto.s-end, count) in
    record {
      colour =
          colour_of_ends list _ _ c.loop-s.s c.loop-s.ends _ _ _ c.loop-s.invariant all
          (rw c.count-count.ensures at c.resolved_colour.ensures.red) (rw c.count-count.ensures at c.resolved_colour.ensures.green) (rw c.count-count.ensures at c.resolved_colour.ensures.blue);
      first = sample_of c.loop-s.ends 0;
      is_end = c.loop-s.invariant.end 0 (omega (arith, all, some_samples list.count));
      depth = refl;
    }
