use Rattle.std.proofs.Common.{◌*◌}
use Rattle.grid.specs.Samples.{count_of}
use Rattle.list_history.specs.Counts.{AreCountSums, AreCountsAt, AreAtMost}
use Rattle.list_history.proofs.sample_counts.counts_of.Given as goal

abbrev pub invariant-loop-py : goal.invariant-loop-py
invariant-loop-py l = record {
  sums : AreCountSums (λ j c. AreCountSums (λ s d. AreCountSums (λ i e. AreCountsAt l.list l.number i j s e) l.list.width d) (count_of l.list.count) c) l.py l.counts;
  small : AreAtMost (65536 * l.py) l.counts;
}
