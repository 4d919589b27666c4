use Rattle.std.proofs.Common.{arith, ◌≡◌, ℕ, ◌≤◌, ℤ, pos, ◌-ℤ◌, ◌*ℤ◌, neg_ℤ, ◌*◌, ◌^◌, w64, to_z, of_z}
use Rattle.std.proofs.lemmas.Int.{ints}
use Rattle.std.specs.Int.RustNames.{unsigned_abs}
use mir.Syntax.{w128}
use Rattle.grid.specs.Bounds.{IsWithin}
use Rattle.grid.proofs.Bounds.{IsWithin-mul}
use Rattle.strokes.specs.Segment.{dot, square_length}
use Rattle.strokes.specs.Join.{signed_square}
use Rattle.strokes.proofs.Comparing.{compared}
use Rattle.strokes.proofs.Wide.{IsWideProduct, wide_product}
use Rattle.strokes.proofs.join.is_within_limit.Goals as goal

-- the left side is exact
product : (m l : ℕ) (x y : ℤ) → x ≡ signed_square (pos 128 -ℤ pos m) → y ≡ pos l → m ≤ 2 ^ 14 → l ≤ 2 ^ 98
    → IsWideProduct x y (signed_square (pos 128 -ℤ pos m)) (pos l) (2 ^ 28 * 2 ^ 98)
product m l x y e f small_m small_l =
    let u = pos 128 -ℤ pos m in
    let h : IsWithin (2 ^ 14) (pos 128 -ℤ pos m) = omega (arith, ints, small_m) in
    let size : IsWithin (2 ^ 14 * 2 ^ 14) (signed_square (pos 128 -ℤ pos m)) =
    IsWithin-mul u (pos (unsigned_abs u)) (2 ^ 14) (2 ^ 14) h (omega (arith, ints, h)) in
    wide_product x y _ _ (2 ^ 28) (2 ^ 98) e f size (omega (arith, ints, small_l)) (omega arith) (omega arith) (omega arith)

-- the number that is squared on the left
excess : (limit : ℕ) (square from : ℤ) → from ≡ to_z w64 (of_z w64 square) → square ≡ pos (limit * limit) → IsWithin (2 ^ 14) square
    → to_z w128 (of_z w128 (pos 128 -ℤ to_z w128 (of_z w128 from))) ≡ pos 128 -ℤ pos (limit * limit)
excess limit square from e value size = omega (arith, ints, e, value, size)

pub overflow_mul-result : goal.overflow_mul-result
overflow_mul-result c =
    let e = excess c.args.limit c.square.result c.from.result c.from.ensures c.square.ensures.value c.square.ensures.size in
    let l = square_length c.args.a c.args.b * square_length c.args.b c.args.c in
    let p = product (c.args.limit * c.args.limit) l c.signed_square.result c.lengths.result (rw e at c.signed_square.ensures) c.lengths.ensures.value (omega (arith, ints, c.square.ensures.value, c.square.ensures.size)) (omega (arith, ints, c.lengths.ensures.value, c.lengths.ensures.size)) in
    p.fits

pub returns : goal.returns
returns c =
    let e = excess c.args.limit c.square.result c.from.result c.from.ensures c.square.ensures.value c.square.ensures.size in
    let l = square_length c.args.a c.args.b * square_length c.args.b c.args.c in
    let p = product (c.args.limit * c.args.limit) l c.signed_square.result c.lengths.result (rw e at c.signed_square.ensures) c.lengths.ensures.value (omega (arith, ints, c.square.ensures.value, c.square.ensures.size)) (omega (arith, ints, c.lengths.ensures.value, c.lengths.ensures.size)) in
    let back : to_z w128 (of_z w128 c.weighted_cosine.result) ≡ neg_ℤ (pos (c.args.limit * c.args.limit) *ℤ dot c.args.b c.args.a c.args.c) =
    omega (arith, ints, c.weighted_cosine.ensures.value, c.weighted_cosine.ensures.size) in
    let right : c.signed_square-2.result ≡ signed_square (neg_ℤ (pos (c.args.limit * c.args.limit) *ℤ dot c.args.b c.args.a c.args.c)) =
    rw back at c.signed_square-2.ensures in
    let passed : to_z w128 (of_z w128 c.signed_square-2.result) ≡ c.signed_square-2.result = omega (arith, ints, c.signed_square-2.type_inv) in
    compared _ _ _ c.signed_square-2.result _ p.value passed (rw right (λ k. k, λ k. k))
