use Rattle.std.proofs.Common.{arith, refl, ◌≡◌, ◌↔◌, ◌∙◌, neg_ℤ, ◌-ℤ◌, ◌≤ℤ◌}
use Rattle.std.proofs.lemmas.Int.{ints}
use Rattle.grid.specs.Edge.{side}
use Rattle.strokes.specs.Border.{owns}
use Rattle.strokes.specs.Segment.{IsNearLeft}
use Rattle.strokes.proofs.Comparing.{passed_difference}
use Rattle.strokes.proofs.Lines.{function_by, on_side, leftwards, half_size}
use Rattle.strokes.proofs.line.Line.near_left.Goals as goal

pub invariant_of-result : goal.invariant_of-result
invariant_of-result c =
    let s = half_size c.offset_bound-bound.result c.args.width c.square_length-square.result c.owns-is_owned.result c.offset_bound-bound.ensures.meaning c.requires.width (omega (arith, c.square_length-square.ensures.size)) in
    record {
      right = record { low = omega (arith, ints, c.y.ensures.in_band.low, c.y.ensures.in_band.high, c.y-2.ensures.in_band.low, c.y-2.ensures.in_band.high, c.y.ensures.value, c.y-2.ensures.value, c.difference-x.ensures); high = omega (arith, ints, c.y.ensures.in_band.low, c.y.ensures.in_band.high, c.y-2.ensures.in_band.low, c.y-2.ensures.in_band.high, c.y.ensures.value, c.y-2.ensures.value, c.difference-x.ensures) };
      down = record { low = omega (arith, ints, c.x.ensures.in_band.low, c.x.ensures.in_band.high, c.x-2.ensures.in_band.low, c.x-2.ensures.in_band.high, c.x.ensures.value, c.x-2.ensures.value, c.difference-y.ensures); high = omega (arith, ints, c.x.ensures.in_band.low, c.x.ensures.in_band.high, c.x-2.ensures.in_band.low, c.x-2.ensures.in_band.high, c.x.ensures.value, c.x-2.ensures.value, c.difference-y.ensures) };
      near = record { low = omega (arith, ints, s.low, s.high); high = omega (arith, ints, s.low, s.high) };
    }

pub returns : goal.returns
returns c p =
    let a = c.args.a in
    let b = c.args.b in
    let width = c.args.width in
    let x = passed_difference _ _ _ _ _ c.y.ensures.in_band c.y-2.ensures.in_band c.y.ensures.value c.y-2.ensures.value c.difference-x.ensures in
    let y = passed_difference _ _ _ _ _ c.x.ensures.in_band c.x-2.ensures.in_band c.x.ensures.value c.x-2.ensures.value c.difference-y.ensures in
    let owned : c.owns-is_owned.result ≡ owns (b.y -ℤ a.y) (a.x -ℤ b.x) = rw (x, y) at c.owns-is_owned.ensures.value in
    let s = half_size c.offset_bound-bound.result c.args.width c.square_length-square.result c.owns-is_owned.result c.offset_bound-bound.ensures.meaning c.requires.width (omega (arith, c.square_length-square.ensures.size)) in
    let m : ((neg_ℤ (side a b p)) ≤ℤ c.offset_bound-bound.result) ↔ IsNearLeft a b width p = rw (c.square_length-square.ensures.value, owned) at (c.offset_bound-bound.ensures.meaning (neg_ℤ (side a b p))) in
    on_side _ p (neg_ℤ (side a b p)) c.offset_bound-bound.result _ (function_by _ a p (b.y -ℤ a.y) (a.x -ℤ b.x) refl (omega (arith, ints, c.y.ensures.in_band.low, c.y.ensures.in_band.high, c.y-2.ensures.in_band.low, c.y-2.ensures.in_band.high, c.y.ensures.value, c.y-2.ensures.value, c.difference-x.ensures)) (omega (arith, ints, c.x.ensures.in_band.low, c.x.ensures.in_band.high, c.x-2.ensures.in_band.low, c.x-2.ensures.in_band.high, c.x.ensures.value, c.x-2.ensures.value, c.difference-y.ensures)) ∙ leftwards a b p) (omega (arith, ints, s.low, s.high)) m
