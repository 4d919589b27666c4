use Rattle.std.proofs.Common.{◌*◌}
use Rattle.list_history.specs.Counts.{AreCountSums, AreCountsAt, AreAtMost}
use Rattle.list_history.proofs.sample_counts.counts_of_row.Given as goal

abbrev pub invariant-loop-s : goal.invariant-loop-s
invariant-loop-s l = record {
  sums : AreCountSums (λ s c. AreCountSums (λ i d. AreCountsAt l.list l.number i l.py s d) l.list.width c) l.s l.counts;
  small : AreAtMost (4096 * l.s) l.counts;
}
