use Rattle.std.proofs.Common.{arith, ◌≡◌, ◌↔◌, pos, neg_ℤ, ◌≤ℤ◌, ◌-ℤ◌, w64, to_z, of_z}
use Rattle.std.proofs.lemmas.Int.{ints}
use Rattle.strokes.specs.Segment.{IsInFront, dot}
use Rattle.strokes.specs.Border.{owns}
use Rattle.strokes.proofs.Comparing.{compared, passed_difference}
use Rattle.strokes.proofs.segment.is_in_front.Goals as goal

pub returns : goal.returns
returns c =
    let first = passed_difference _ _ _ _ _ c.x.ensures.in_band c.x-2.ensures.in_band c.x.ensures.value c.x-2.ensures.value c.difference.ensures in
    let second = passed_difference _ _ _ _ _ c.y.ensures.in_band c.y-2.ensures.in_band c.y.ensures.value c.y-2.ensures.value c.difference-2.ensures in
    let owned : c.owns-is_owned.result ≡ owns (c.args.a.x -ℤ c.args.b.x) (c.args.a.y -ℤ c.args.b.y) = rw (first, second) at c.owns-is_owned.ensures.value in
    let m : (neg_ℤ (dot c.args.a c.args.b c.args.p) ≤ℤ c.line_bound.result) ↔ IsInFront c.args.a c.args.b c.args.p = rw owned at (c.line_bound.ensures.meaning (neg_ℤ (dot c.args.a c.args.b c.args.p))) in
    let e : to_z w64 (of_z w64 (pos 0 -ℤ to_z w64 (of_z w64 c.dot-back.result))) ≡ neg_ℤ (dot c.args.a c.args.b c.args.p) = omega (arith, ints, c.dot-back.ensures.size, c.dot-back.ensures.value) in
    let r : to_z w64 (of_z w64 c.line_bound.result) ≡ c.line_bound.result = omega (arith, ints, c.line_bound.type_inv) in
    compared _ _ (neg_ℤ (dot c.args.a c.args.b c.args.p)) c.line_bound.result _ e r m
