use Rattle.list_history.specs.Counts.{AreCountSums, AreCountsAt, AreAtMost}
use Rattle.list_history.proofs.row.SampleRow.counts_in.Given as goal

abbrev pub invariant-loop-px : goal.invariant-loop-px
invariant-loop-px l = record {
  sums : AreCountSums (λ i c. AreCountsAt l.self.list.now l.self.number i l.self.py l.self.s c) l.px l.counts;
  small : AreAtMost l.px l.counts;
}
