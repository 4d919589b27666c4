use Rattle.std.proofs.Common.{◌≡◌, ◌<◌, ℕ, length, subst, arith}
use Rattle.grid.specs.Samples.{sample_position}
use Rattle.list_history.specs.Counts.{AreCountSums, AreCountsAt}
use Rattle.list_history.proofs.RowAfter.{counts_in_column}
use Rattle.list_history.proofs.Sums.{sums_more, both_at_most}
use Rattle.list_history.proofs.row.SampleRow.counts_in.Goals as goal

pub loop-px-preserved : goal.loop-px-preserved
loop-px-preserved c =
    let l = c.args.self.now.list.now in
    let px = c.loop-px.px in
    let across : px < l.width = omega (arith, c.loop-px-test.true, c.width-px-end.ensures.value) in
    let long : px < length c.args.row.now = omega (arith, across, c.requires.width) in
    let here : c.sample_at-p.result ≡ sample_position px c.args.self.now.py c.args.self.now.s l.count = rw c.count-count.ensures at c.sample_at-p.ensures in
    let at : AreCountsAt l c.args.self.now.number px c.args.self.now.py c.args.self.now.s c.counts_at-of_sample.result =
    counts_in_column l c.args.self.now.number px c.args.self.now.py c.args.self.now.s c.triangle-triangle.result c.triangle-triangle.ensures c.args.self.now.columns c.args.row.now _
    c.sample_at-p.result c.counts_at-of_sample.result here long (λ h. c.args.self.now.covered px c.args.self.now.py c.args.self.now.s across c.args.self.now.is_row c.args.self.now.is_sample h)
    c.requires.followed c.counts_at-of_sample.ensures.covered c.counts_at-of_sample.ensures.changed c.counts_at-of_sample.ensures.shown in
    record {
      sums = sums_more (λ i d. AreCountsAt l c.args.self.now.number i c.args.self.now.py c.args.self.now.s d) px c.loop-px.counts c.counts_at-of_sample.result c.and-counts.result
          c.loop-px.invariant.sums at c.and-counts.ensures;
      small = rw c.and-counts.ensures (both_at_most px 1 c.loop-px.counts c.counts_at-of_sample.result c.loop-px.invariant.small c.counts_at-of_sample.ensures.at_most);
    }

pub returns-clause-sums : goal.returns-clause-sums
returns-clause-sums c =
    let all : c.loop-px.px ≡ c.args.self.now.list.now.width = omega (arith, c.width-px-end.ensures.value) in
    subst (λ (k : ℕ). AreCountSums (λ i d. AreCountsAt c.args.self.now.list.now c.args.self.now.number i c.args.self.now.py c.args.self.now.s d) k c.loop-px.counts) all c.loop-px.invariant.sums
