use Rattle.std.proofs.Common.{below_more}
use Rattle.lanes.proofs.LaneNumbers.{is_one}
use Rattle.lanes_tests.proofs.blocks.covers_plane.Goals.{else-mask-k-eq1-via-then-mask-k-eq1+else-not-covers, else-mask-k-eq1-via-else-mask-k-eq1}
use Rattle.lanes_tests.proofs.blocks.covers_plane.Goals as goal

pub loop-k-preserved : goal.loop-k-preserved
loop-k-preserved c = below_more _ _ c.loop-k.invariant (λ set.
    elim c.else-mask-k-eq1.branch [
      | else-mask-k-eq1-via-then-mask-k-eq1+else-not-covers w ↦ rw w.sample_position.ensures at (w.covers.ensures.0 w.if-not-covers.false)
      | else-mask-k-eq1-via-else-mask-k-eq1 w ↦ absurd (w.if-mask-k-eq1.false (is_one c.args.mask c.loop-k.k set))
    ])
