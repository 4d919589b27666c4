use Rattle.std.proofs.Common.{◌≡◌, ℕ, subst, arith}
use Rattle.grid.specs.Samples.{count_of}
use Rattle.list_history.specs.Counts.{AreCountSums, AreCountsAt}
use Rattle.list_history.proofs.Sums.{counts_are}
use Rattle.list_history.proofs.sample_counts.counts_of.Goals as goal

pub returns : goal.returns
returns c =
    let l = c.args.list.now in
    let all : c.loop-py.py ≡ l.height = omega (arith, c.height-py-end.ensures.value) in
    counts_are l c.args.number c.loop-py.counts
    (subst (λ (k : ℕ). AreCountSums (λ j d. AreCountSums (λ s e. AreCountSums (λ i g. AreCountsAt l c.args.number i j s g) l.width e) (count_of l.count) d) k c.loop-py.counts) all c.loop-py.invariant.sums)
