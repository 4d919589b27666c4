use Rattle.std.proofs.Common.{arith, ◌≡◌, ◌↔◌, ◌≤ℤ◌, ◌-ℤ◌, w64, to_z, of_z}
use Rattle.std.proofs.lemmas.Int.{ints}
use Rattle.grid.specs.Edge.{side}
use Rattle.strokes.specs.Segment.{IsNearRight}
use Rattle.strokes.specs.Border.{owns}
use Rattle.strokes.proofs.Comparing.{compared, passed_difference}
use Rattle.strokes.proofs.segment.is_near_right.Goals as goal

pub returns : goal.returns
returns c =
    let first = passed_difference _ _ _ _ _ c.y.ensures.in_band c.y-2.ensures.in_band c.y.ensures.value c.y-2.ensures.value c.difference.ensures in
    let second = passed_difference _ _ _ _ _ c.x.ensures.in_band c.x-2.ensures.in_band c.x.ensures.value c.x-2.ensures.value c.difference-2.ensures in
    let owned : c.owns-is_owned.result ≡ owns (c.args.a.y -ℤ c.args.b.y) (c.args.b.x -ℤ c.args.a.x) = rw (first, second) at c.owns-is_owned.ensures.value in
    let m : (side c.args.a c.args.b c.args.p ≤ℤ c.offset_bound.result) ↔ IsNearRight c.args.a c.args.b c.args.width c.args.p =
    rw (c.square_length.ensures.value, owned) at (c.offset_bound.ensures.meaning (side c.args.a c.args.b c.args.p)) in
    let e : to_z w64 (of_z w64 c.side.result) ≡ side c.args.a c.args.b c.args.p = omega (arith, ints, c.side.ensures.size, c.side.ensures.value) in
    let r : to_z w64 (of_z w64 c.offset_bound.result) ≡ c.offset_bound.result = omega (arith, ints, c.offset_bound.type_inv) in
    compared _ _ (side c.args.a c.args.b c.args.p) c.offset_bound.result _ e r m
