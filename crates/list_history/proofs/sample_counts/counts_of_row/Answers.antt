use Rattle.std.proofs.Common.{◌+◌, ◌*◌, inl, inr, arith}
use Rattle.list_history.proofs.RowAfter.{sums_skipped}
use Rattle.list_history.proofs.Sums.{sums_more, at_most_more, both_at_most}
use Rattle.list_history.specs.Counts.{AreCountSums, AreCountsAt}
use Rattle.list_history.proofs.sample_counts.counts_of_row.Goals as goal

pub returns-then-py-from-clause-sums : goal.returns-then-py-from-clause-sums
returns-then-py-from-clause-sums c =
    rw c.none-counts.ensures (sums_skipped c.args.list.now c.args.number c.args.py c.rows-rows.result c.requires.number c.rows-rows.ensures
    (omega (arith, c.width.ensures.value, c.width.ensures.greatest)) c.requires.row (inl (omega (arith, c.from.ensures))))

pub returns-then-from-py-clause-sums : goal.returns-then-from-py-clause-sums
returns-then-from-py-clause-sums c =
    rw c.none-counts.ensures (sums_skipped c.args.list.now c.args.number c.args.py c.rows-rows.result c.requires.number c.rows-rows.ensures
    (omega (arith, c.width.ensures.value, c.width.ensures.greatest)) c.requires.row (inr (omega (arith, c.from-2.ensures))))

pub loop-s-preserved : goal.loop-s-preserved
loop-s-preserved c = record {
  sums = sums_more (λ s d. AreCountSums (λ i e. AreCountsAt c.args.list.now c.args.number i c.args.py s e) c.args.list.now.width d) c.loop-s.s
      c.loop-s.counts c.in_ok-of_samples.of_samples c.and-counts.result c.loop-s.invariant.sums c.in_ok-of_samples.ensures.sums c.and-counts.ensures;
  small = rw c.and-counts.ensures (at_most_more (4096 * c.loop-s.s + 4096) (4096 * (c.loop-s.s + 1)) _
      (both_at_most (4096 * c.loop-s.s) 4096 c.loop-s.counts c.in_ok-of_samples.of_samples c.loop-s.invariant.small c.in_ok-of_samples.ensures.at_most) (omega arith));
}
