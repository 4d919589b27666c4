use Rattle.std.proofs.Common.{arith}
use Rattle.shade.specs.Placed.{Meets}
use Rattle.shade.proofs.Resolved.{few_samples}
use Rattle.history.specs.Samples.{IsOneIf}
use Rattle.history.proofs.Counted.{sum_more}
use Rattle.history.proofs.samples.met_in_pixel.Goals as goal

pub loop-s-preserved : goal.loop-s-preserved
loop-s-preserved c = record {
  sum = sum_more (λ s m. IsOneIf (Meets c.args.triangle.now c.args.count c.args.px c.args.py s) m) c.loop-s.s c.loop-s.total _ c.loop-s.invariant.sum c.one_if_met-total.ensures.met;
  small = omega (arith, c.loop-s.invariant.small, c.one_if_met-total.ensures.at_most);
}

pub returns-clause-at_most : goal.returns-clause-at_most
returns-clause-at_most c = omega (arith, few_samples c.args.count, c.loop-s.invariant.small, c.loop-s-test.false, c.count-s-end.ensures)
