use Rattle.std.proofs.Common.{arith, refl, ◌≡◌, ◌+ℤ◌, w64, to_z, of_z}
use Rattle.std.proofs.lemmas.Int.{ints}
use Rattle.grid.proofs.Bounds.{passed}
use Rattle.strokes.specs.Segment.{dot}
use Rattle.strokes.proofs.segment.dot.Goals as goal

sum : (c : goal.After-product-2) → to_z w64 (of_z w64 (to_z w64 (of_z w64 c.product.result) +ℤ to_z w64 (of_z w64 c.product-2.result))) ≡ c.product.result +ℤ c.product-2.result
sum c = omega (arith, ints, c.product.ensures.size, c.product-2.ensures.size)

-- src/segment.rt:98:5
pub overflow_add-result : goal.overflow_add-result
overflow_add-result c = omega (arith, ints, c.product.ensures.size, c.product-2.ensures.size)

-- src/segment.rt:93:1
pub returns-clause-value : goal.returns-clause-value
unfolding dot
returns-clause-value c =
    let ax = passed _ _ c.x.ensures.in_band c.x.ensures.value in
    let bx = passed _ _ c.x-2.ensures.in_band c.x-2.ensures.value in
    let px = passed _ _ c.x-3.ensures.in_band c.x-3.ensures.value in
    let ay = passed _ _ c.y.ensures.in_band c.y.ensures.value in
    let by = passed _ _ c.y-2.ensures.in_band c.y-2.ensures.value in
    let py = passed _ _ c.y-3.ensures.in_band c.y-3.ensures.value in
    let x = rw (ax, bx, px) at c.product.ensures.value in
    let y = rw (ay, by, py) at c.product-2.ensures.value in
    rw (sum c, x, y) refl

-- src/segment.rt:93:1
pub returns-clause-size : goal.returns-clause-size
returns-clause-size c = rw (sum c) (omega (arith, ints, c.product.ensures.size, c.product-2.ensures.size))
