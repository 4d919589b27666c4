use Rattle.std.proofs.Common.{◌≡◌, arith, ◌^◌, ℤ, pos, ◌+ℤ◌, ◌-ℤ◌, ◌*ℤ◌, ◌<ℤ◌, ◌≤ℤ◌, w32, w64, to_z, of_z, FitsSigned}
use Rattle.std.proofs.lemmas.Int.{ints}
use Rattle.std.specs.Int.{int_div_euclid}
use Rattle.grid.specs.Bounds.{IsWithin}
use Rattle.polygons.proofs.Division.{division, quotient_size}
use Rattle.polygons.proofs.divide.divide_short.Goals as goal

-- a quotient and what it leaves, as the code forms them
record AreFound (n d q : ℤ) : Type 0 where
  number_is : to_z w32 (of_z w32 n) ≡ n
  by_is : to_z w32 (of_z w32 d) ≡ d
  quotient_is : to_z w32 (of_z w32 q) ≡ q
  product_is : to_z w32 (of_z w32 (q *ℤ d)) ≡ q *ℤ d
  product : IsWithin (2 ^ 26) (q *ℤ d)
  low : pos 0 ≤ℤ (n -ℤ q *ℤ d)
  high : (n -ℤ q *ℤ d) <ℤ d
  size : IsWithin (2 ^ 25) q
  rest : IsWithin (2 ^ 25) (n -ℤ q *ℤ d)

small32 : (z : ℤ) → IsWithin (2 ^ 26) z → to_z w32 (of_z w32 z) ≡ z
small32 z h = omega (arith, ints)

wider : (z : ℤ) → IsWithin (2 ^ 25) z → IsWithin (2 ^ 26) z
wider z h = record { low = omega (arith, ints); high = omega (arith, ints) }

with_rest : (n d p r : ℤ) → n ≡ p +ℤ r → IsWithin (2 ^ 25) n → pos 0 ≤ℤ r → r <ℤ d → d ≤ℤ pos (2 ^ 25) → IsWithin (2 ^ 26) p
with_rest n d p r e h l k m = record { low = omega (arith, ints); high = omega (arith, ints) }

found : (n d q : ℤ) → pos 0 <ℤ d → d ≤ℤ pos (2 ^ 25) → IsWithin (2 ^ 25) n → q ≡ int_div_euclid (to_z w32 (of_z w32 n)) (to_z w32 (of_z w32 d)) → AreFound n d q
found n d q h m k e =
    let number_is = small32 n (wider n k) in
    let by_is : to_z w32 (of_z w32 d) ≡ d = omega (arith, ints) in
    let is : q ≡ int_div_euclid n d = rw (number_is, by_is) at e in
    let law = division n d h in
    let sum = rw (← is) at law.sum in
    let size : IsWithin (2 ^ 25) q = rw is (quotient_size n d (2 ^ 25) h k) in
    let product = with_rest n d (q *ℤ d) _ sum k law.low law.high m in
    let low : pos 0 ≤ℤ (n -ℤ q *ℤ d) = omega (arith, ints, sum, law.low) in
    let high : (n -ℤ q *ℤ d) <ℤ d = omega (arith, ints, sum, law.high) in
    record {
      number_is = number_is;
      by_is = by_is;
      quotient_is = small32 q (wider q size);
      product_is = small32 (q *ℤ d) product;
      product = product;
      low = low;
      high = high;
      size = size;
      rest = record { low = omega (arith, ints, low); high = omega (arith, ints, high, m) };
    }

fits32 : (z : ℤ) → IsWithin (2 ^ 26) z → FitsSigned w32 z
fits32 z h = omega (arith, ints)

as_64 : (f z : ℤ) → f ≡ to_z w32 (of_z w32 z) → IsWithin (2 ^ 25) z → to_z w64 (of_z w64 f) ≡ z
as_64 f z e h = omega (arith, ints)

rest_as_64 : (f n d q : ℤ) → AreFound n d q
    → f ≡ to_z w32 (of_z w32 (to_z w32 (of_z w32 n) -ℤ to_z w32 (of_z w32 (to_z w32 (of_z w32 q) *ℤ to_z w32 (of_z w32 d))))) → to_z w64 (of_z w64 f) ≡ n -ℤ q *ℤ d
rest_as_64 f n d q a e = as_64 f (n -ℤ q *ℤ d) (rw (a.number_is, a.quotient_is, a.by_is, a.product_is) at e) a.rest

sum_is : (n d q : ℤ) → n ≡ q *ℤ d +ℤ (n -ℤ q *ℤ d)
sum_is n d q = omega (arith, ints)

pub overflow_mul-rest : goal.overflow_mul-rest
overflow_mul-rest c =
    let a = found c.args.number c.args.by c.div_euclid-quotient.result c.requires.by c.requires.small c.requires.number c.div_euclid-quotient.ensures in
    rw (a.quotient_is, a.by_is) (fits32 _ a.product)

pub overflow_sub-rest : goal.overflow_sub-rest
overflow_sub-rest c =
    let a = found c.args.number c.args.by c.div_euclid-quotient.result c.requires.by c.requires.small c.requires.number c.div_euclid-quotient.ensures in
    rw (a.number_is, a.quotient_is, a.by_is, a.product_is) (fits32 _ (wider _ a.rest))

pub returns-clause-sum : goal.returns-clause-sum
returns-clause-sum c =
    let n = c.args.number in let d = c.args.by in let q = c.div_euclid-quotient.result in
    let a = found n d q c.requires.by c.requires.small c.requires.number c.div_euclid-quotient.ensures in
    rw (as_64 c.from.result q c.from.ensures a.size, rest_as_64 c.from-2.result n d q a c.from-2.ensures) (sum_is n d q)

pub returns-clause-low : goal.returns-clause-low
returns-clause-low c =
    let n = c.args.number in let d = c.args.by in let q = c.div_euclid-quotient.result in
    let a = found n d q c.requires.by c.requires.small c.requires.number c.div_euclid-quotient.ensures in
    rw (rest_as_64 c.from-2.result n d q a c.from-2.ensures) a.low

pub returns-clause-high : goal.returns-clause-high
returns-clause-high c =
    let n = c.args.number in let d = c.args.by in let q = c.div_euclid-quotient.result in
    let a = found n d q c.requires.by c.requires.small c.requires.number c.div_euclid-quotient.ensures in
    rw (rest_as_64 c.from-2.result n d q a c.from-2.ensures) a.high

pub returns-clause-size : goal.returns-clause-size
returns-clause-size c =
    let n = c.args.number in let d = c.args.by in let q = c.div_euclid-quotient.result in
    let a = found n d q c.requires.by c.requires.small c.requires.number c.div_euclid-quotient.ensures in
    rw (as_64 c.from.result q c.from.ensures a.size) a.size
