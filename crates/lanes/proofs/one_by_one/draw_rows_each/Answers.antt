use Rattle.std.proofs.Common.{sym, subst, arith, ◌+◌, ◌*◌, ◌<◌}
use Rattle.shade.specs.Canvas.{IsCanvasDrawnAt}
use Rattle.gradients.specs.Group.{position_in}
use Rattle.lanes.specs.Block.{stored_at, AreDrawn}
use Rattle.lanes.proofs.LaneNumbers.{is_one, is_set}
use Rattle.lanes.proofs.Blocks.{rows_kept, one_more, one_drawn, one_kept}
use Rattle.lanes.proofs.one_by_one.draw_rows_each.Goals.{then-mask-k-eq1, else-mask-k-eq1}
use Rattle.lanes.proofs.one_by_one.draw_rows_each.Goals as goal

pub returns-then-not-has_some : goal.returns-then-not-has_some
returns-then-not-has_some c = rows_kept (IsCanvasDrawnAt c.args.triangle.now) c.args.p c.args.mask c.args.group c.args.samples.now (c.has_some.ensures c.if-not-has_some.true)

pub drawn_on_canvas_at-requires : goal.drawn_on_canvas_at-requires
drawn_on_canvas_at-requires c =
    let room : 16 * c.args.group + c.loop-i.i < 64 = omega (arith, c.requires.group, c.loop-i-test.true) in
    rw c.sample_position.ensures (c.requires.covered (16 * c.args.group + c.loop-i.i) room (is_set c.args.mask (16 * c.args.group + c.loop-i.i) c.if-mask-k-eq1.true))

pub loop-i-preserved : goal.loop-i-preserved
loop-i-preserved c =
    let t = c.args.triangle.now in
    let k = 16 * c.args.group + c.loop-i.i in
    let room : k < 64 = omega (arith, c.requires.group, c.loop-i-test.true) in
    elim c.if-mask-k-eq1.branch [
      | then-mask-k-eq1 w ↦
          let drawn : IsCanvasDrawnAt t (position_in c.args.p k) (stored_at c.loop-i.samples k) (stored_at w.set.new.self k) =
          rw w.set.ensures.stored (subst (λ p. IsCanvasDrawnAt t p (stored_at c.loop-i.samples k) w.drawn_on_canvas_at.result) w.sample_position.ensures (subst (λ s. IsCanvasDrawnAt t w.sample_position.result s w.drawn_on_canvas_at.result) w.sample-stored.ensures w.drawn_on_canvas_at.ensures)) in
          subst (λ s. AreDrawn (IsCanvasDrawnAt t) c.args.p c.args.mask c.args.samples.now s (16 * c.args.group) (c.loop-i.i + 1)) (sym w.samples-is)
          (one_more (IsCanvasDrawnAt t) c.args.p c.args.mask _ _ _ (16 * c.args.group) c.loop-i.i room c.loop-i.invariant (one_drawn (IsCanvasDrawnAt t) c.args.p c.args.mask c.loop-i.samples w.set.new.self k room (is_set c.args.mask k w.if-mask-k-eq1.true) drawn w.set.ensures.kept))
      | else-mask-k-eq1 w ↦
          subst (λ s. AreDrawn (IsCanvasDrawnAt t) c.args.p c.args.mask c.args.samples.now s (16 * c.args.group) (c.loop-i.i + 1)) (sym w.samples-is)
          (one_more (IsCanvasDrawnAt t) c.args.p c.args.mask _ _ _ (16 * c.args.group) c.loop-i.i room c.loop-i.invariant (one_kept (IsCanvasDrawnAt t) c.args.p c.args.mask c.loop-i.samples k (λ set. w.if-mask-k-eq1.false (is_one c.args.mask k set))))
    ]
