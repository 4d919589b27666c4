use Rattle.std.proofs.Common.{arith, refl, ◌≡◌, ◌↔◌, ◌∙◌, pos, neg_ℤ, ◌-ℤ◌, ◌≤ℤ◌}
use Rattle.std.proofs.lemmas.Int.{ints}
use Rattle.strokes.specs.Border.{owns}
use Rattle.strokes.specs.Segment.{dot, IsInFront}
use Rattle.strokes.proofs.Comparing.{passed_difference}
use Rattle.strokes.proofs.Lines.{function_by, on_side, backwards, at_most_size}
use Rattle.strokes.proofs.line.Line.in_front.Goals as goal

pub invariant_of-result : goal.invariant_of-result
invariant_of-result c =
    let s = at_most_size c.line_bound-bound.result (pos 0) c.owns-is_owned.result c.line_bound-bound.ensures.meaning (record { low = omega (arith, ints); high = omega (arith, ints) }) in
    record {
      right = record { low = omega (arith, ints, c.x.ensures.in_band.low, c.x.ensures.in_band.high, c.x-2.ensures.in_band.low, c.x-2.ensures.in_band.high, c.x.ensures.value, c.x-2.ensures.value, c.difference-x.ensures); high = omega (arith, ints, c.x.ensures.in_band.low, c.x.ensures.in_band.high, c.x-2.ensures.in_band.low, c.x-2.ensures.in_band.high, c.x.ensures.value, c.x-2.ensures.value, c.difference-x.ensures) };
      down = record { low = omega (arith, ints, c.y.ensures.in_band.low, c.y.ensures.in_band.high, c.y-2.ensures.in_band.low, c.y-2.ensures.in_band.high, c.y.ensures.value, c.y-2.ensures.value, c.difference-y.ensures); high = omega (arith, ints, c.y.ensures.in_band.low, c.y.ensures.in_band.high, c.y-2.ensures.in_band.low, c.y-2.ensures.in_band.high, c.y.ensures.value, c.y-2.ensures.value, c.difference-y.ensures) };
      near = record { low = omega (arith, ints, s.low, s.high); high = omega (arith, ints, s.low, s.high) };
    }

pub returns : goal.returns
returns c p =
    let a = c.args.a in
    let b = c.args.b in
    let x = passed_difference _ _ _ _ _ c.x.ensures.in_band c.x-2.ensures.in_band c.x.ensures.value c.x-2.ensures.value c.difference-x.ensures in
    let y = passed_difference _ _ _ _ _ c.y.ensures.in_band c.y-2.ensures.in_band c.y.ensures.value c.y-2.ensures.value c.difference-y.ensures in
    let owned : c.owns-is_owned.result ≡ owns (a.x -ℤ b.x) (a.y -ℤ b.y) = rw (x, y) at c.owns-is_owned.ensures.value in
    let s = at_most_size c.line_bound-bound.result (pos 0) c.owns-is_owned.result c.line_bound-bound.ensures.meaning (record { low = omega (arith, ints); high = omega (arith, ints) }) in
    let m : ((neg_ℤ (dot a b p)) ≤ℤ c.line_bound-bound.result) ↔ IsInFront a b p = rw (owned) at (c.line_bound-bound.ensures.meaning (neg_ℤ (dot a b p))) in
    on_side _ p (neg_ℤ (dot a b p)) c.line_bound-bound.result _ (function_by _ a p (a.x -ℤ b.x) (a.y -ℤ b.y) refl (omega (arith, ints, c.x.ensures.in_band.low, c.x.ensures.in_band.high, c.x-2.ensures.in_band.low, c.x-2.ensures.in_band.high, c.x.ensures.value, c.x-2.ensures.value, c.difference-x.ensures)) (omega (arith, ints, c.y.ensures.in_band.low, c.y.ensures.in_band.high, c.y-2.ensures.in_band.low, c.y-2.ensures.in_band.high, c.y.ensures.value, c.y-2.ensures.value, c.difference-y.ensures)) ∙ backwards a b p) (omega (arith, ints, s.low, s.high)) m
