use Rattle.std.proofs.Common.{◌≡◌, arith, ◌^◌, ℤ, ◌-ℤ◌, ◌*ℤ◌, w64, to_z, of_z, FitsSigned}
use Rattle.std.proofs.lemmas.Int.{ints}
use Rattle.grid.specs.Bounds.{IsWithin}
use Rattle.grid.proofs.Bounds.{IsWithin-mul}
use Rattle.polygons.proofs.walk.guess_left.Goals as goal

-- a product, and what it leaves of a number, as the code forms them
record AreGuessed (x y z : ℤ) : Type 0 where
  x_is : to_z w64 (of_z w64 x) ≡ x
  y_is : to_z w64 (of_z w64 y) ≡ y
  z_is : to_z w64 (of_z w64 z) ≡ z
  product : IsWithin (2 ^ 50) (x *ℤ y)
  product_is : to_z w64 (of_z w64 (x *ℤ y)) ≡ x *ℤ y
  size : IsWithin (2 ^ 50) (z -ℤ x *ℤ y)
  rest_is : to_z w64 (of_z w64 (z -ℤ x *ℤ y)) ≡ z -ℤ x *ℤ y

small64 : (z : ℤ) → IsWithin (2 ^ 50) z → to_z w64 (of_z w64 z) ≡ z
small64 z h = omega (arith, ints)

fits64 : (z : ℤ) → IsWithin (2 ^ 50) z → FitsSigned w64 z
fits64 z h = omega (arith, ints)

wider : (z : ℤ) → IsWithin (2 ^ 49) z → IsWithin (2 ^ 50) z
wider z h = record { low = omega (arith, ints); high = omega (arith, ints) }

less : (z p : ℤ) → IsWithin (2 ^ 24) z → IsWithin (2 ^ 49) p → IsWithin (2 ^ 50) (z -ℤ p)
less z p h k = record { low = omega (arith, ints); high = omega (arith, ints) }

guessed : (x y z : ℤ) → IsWithin (2 ^ 24) x → IsWithin (2 ^ 25) y → IsWithin (2 ^ 24) z → AreGuessed x y z
guessed x y z h k l =
    let p : IsWithin (2 ^ 49) (x *ℤ y) = IsWithin-mul x y (2 ^ 24) (2 ^ 25) h k in
    let size = less z (x *ℤ y) l p in
    record {
      x_is = omega (arith, ints);
      y_is = omega (arith, ints);
      z_is = omega (arith, ints);
      product = wider (x *ℤ y) p;
      product_is = small64 (x *ℤ y) (wider (x *ℤ y) p);
      size = size;
      rest_is = small64 (z -ℤ x *ℤ y) size;
    }

pub overflow_mul-down : goal.overflow_mul-down
overflow_mul-down c =
    let down : IsWithin (2 ^ 24) c.from-down.result = let a = c.y.ensures.in_band in let b = c.y-2.ensures.in_band in record { low = omega (arith, ints); high = omega (arith, ints) } in
    let g = guessed c.from-down.result c.args.columns c.from-down.result down c.requires down in
    rw (g.x_is, g.y_is) (fits64 _ g.product)

pub overflow_sub-right : goal.overflow_sub-right
overflow_sub-right c =
    let down : IsWithin (2 ^ 24) c.from-down.result = let a = c.y.ensures.in_band in let b = c.y-2.ensures.in_band in record { low = omega (arith, ints); high = omega (arith, ints) } in
    let right : IsWithin (2 ^ 24) c.from-right.result = let a = c.x.ensures.in_band in let b = c.x-2.ensures.in_band in record { low = omega (arith, ints); high = omega (arith, ints) } in
    let g = guessed c.from-down.result c.args.columns c.from-right.result down c.requires right in
    rw (g.z_is, g.x_is, g.y_is, g.product_is) (fits64 _ g.size)

pub divide-left-requires-clause-number : goal.divide-left-requires-clause-number
divide-left-requires-clause-number c =
    let down : IsWithin (2 ^ 24) c.from-down.result = let a = c.y.ensures.in_band in let b = c.y-2.ensures.in_band in record { low = omega (arith, ints); high = omega (arith, ints) } in
    let right : IsWithin (2 ^ 24) c.from-right.result = let a = c.x.ensures.in_band in let b = c.x-2.ensures.in_band in record { low = omega (arith, ints); high = omega (arith, ints) } in
    let g = guessed c.from-down.result c.args.columns c.from-right.result down c.requires right in
    rw (g.z_is, g.x_is, g.y_is, g.product_is, g.rest_is) g.size
