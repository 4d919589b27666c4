-- Values at a covered point, where the absolute values of the three sides add up to the absolute doubled area.
use Rattle.std.proofs.Common.{◌≡◌, ℕ, ap, ◌+◌, ◌*◌, ◌/◌, ◌%◌, ◌<◌, ◌≤◌, arith}
use Rattle.std.proofs.Math.Nat.{mul-le-mul_right, lt_of_mul-lt-mul_right}
use Rattle.std.proofs.lemmas.Int.{ints}
use Rattle.std.specs.Int.RustNames.{unsigned_abs}
use Rattle.grid.specs.Position.{Position}
use Rattle.grid.specs.Edge.{side}
use Rattle.grid.specs.Triangle.{doubled_area, Covers}
use Rattle.grid.proofs.Between.{over, under, sides_of_sign}
use Rattle.grid.proofs.Sign.{negative, null, positive, sign}
use Rattle.grid.proofs.Identities.{sides-sum}
use Rattle.shade.specs.Quotient.{IsQuotient}
use Rattle.shade.specs.Value.{weighted_sum, IsValueAt}
use Rattle.shade.specs.Weights.{AreWeights}
use Rattle.shade.specs.Row.{IsDivided}

-- ---- quotients
pub quotient : (n d : ℕ) → 0 < d → IsQuotient n d (n / d)
quotient n d h = omega arith

division : (n d : ℕ) → 0 < d → IsDivided n d (n / d) (n % d)
division n d h = record { sum = omega arith; less = omega (arith, h) }

pub quotient-bound : (n d m : ℕ) → 0 < d → n ≤ m * d → n / d ≤ m
quotient-bound n d m h k = grind arith

-- two quotients of the same numbers are the same
pub quotient-le : (n d q r : ℕ) → IsQuotient n d q → IsQuotient n d r → q ≤ r
quotient-le n d q r h k =
    let below : q * d < (r + 1) * d = omega (arith, h.low, k.high) in
    let less : q < r + 1 = lt_of_mul-lt-mul_right d below in
    omega arith

pub quotient-unique : (n d q r : ℕ) → IsQuotient n d q → IsQuotient n d r → q ≡ r
quotient-unique n d q r h k = omega (arith, quotient-le n d q r h k, quotient-le n d r q k h)

-- ---- the weights of a covered point
pub weights-sum : (a b c p : Position) → Covers a b c p → unsigned_abs (side b c p) + unsigned_abs (side c a p) + unsigned_abs (side a b p) ≡ unsigned_abs (side a b c)
weights-sum a b c p h =
    let sum = sides-sum a b c p in
    elim (sides_of_sign a b c p h) [ over s x y z ↦ omega (arith, ints) | under s x y z ↦ omega (arith, ints) ]

-- a triangle that covers a point has an area
pub area_positive : (a b c p : Position) → Covers a b c p → 0 < unsigned_abs (side a b c)
area_positive a b c p h = elim (sign (side a b c)) [ negative k ↦ omega (arith, ints) | null k ↦ absurd (h.area k) | positive k ↦ omega (arith, ints) ]

-- so no weighted sum exceeds the greatest value times the absolute doubled area
sum_bound : (x y z s u v w m : ℕ) → x + y + z ≡ s → u ≤ m → v ≤ m → w ≤ m → u * x + v * y + w * z ≤ m * s
sum_bound x y z s u v w m e i j k =
    omega (arith, ap (λ n. m * n) e, mul-le-mul_right x i, mul-le-mul_right y j, mul-le-mul_right z k)

pub weighted_sum-bound : (a b c p : Position) (u v w m : ℕ) → Covers a b c p → u ≤ m → v ≤ m → w ≤ m → weighted_sum a b c p u v w ≤ m * unsigned_abs (side a b c)
unfolding weighted_sum
weighted_sum-bound a b c p u v w m h i j k =
    sum_bound (unsigned_abs (side b c p)) (unsigned_abs (side c a p)) (unsigned_abs (side a b p)) (unsigned_abs (side a b c)) u v w m (weights-sum a b c p h) i j k

-- a value at a covered point is at most the greatest of the vertices'
pub value-bound : (a b c p : Position) (u v w m q : ℕ) → Covers a b c p → u ≤ m → v ≤ m → w ≤ m → IsValueAt a b c p u v w q → q ≤ m
value-bound a b c p u v w m q h i j k value =
    let most = weighted_sum-bound a b c p u v w m h i j k in
    let some = area_positive a b c p h in
    let less : q * unsigned_abs (side a b c) < (m + 1) * unsigned_abs (side a b c) = omega (arith, value.low) in
    let below : q < m + 1 = lt_of_mul-lt-mul_right (unsigned_abs (side a b c)) less in
    omega arith

-- ---- the weights as the code keeps them
weights_total : (a b c p : Position) (x y z s : ℕ) → AreWeights a b c p x y z s → x + y + z ≡ s
weights_total a b c p x y z s h = omega (arith, weights-sum a b c p h.covered)

weights_positive : (a b c p : Position) (x y z s : ℕ) → AreWeights a b c p x y z s → 0 < s
weights_positive a b c p x y z s h = omega (arith, area_positive a b c p h.covered)

pub products-bound : (a b c p : Position) (x y z s u v w m : ℕ) → AreWeights a b c p x y z s → u ≤ m → v ≤ m → w ≤ m → u * x + v * y + w * z ≤ m * s
products-bound a b c p x y z s u v w m h i j k = sum_bound x y z s u v w m (weights_total a b c p x y z s h) i j k

products-sum : (a b c p : Position) (x y z s u v w : ℕ) → AreWeights a b c p x y z s → u * x + v * y + w * z ≡ weighted_sum a b c p u v w
unfolding weighted_sum
products-sum a b c p x y z s u v w h = rw (h.of_a, h.of_b, h.of_c)

divided_of : (a b c p : Position) (x y z s u v w q r : ℕ) → AreWeights a b c p x y z s → IsDivided (u * x + v * y + w * z) s q r → IsDivided (weighted_sum a b c p u v w) (unsigned_abs (doubled_area a b c)) q r
divided_of a b c p x y z s u v w q r h k = rw (products-sum a b c p x y z s u v w h, h.of_all) at k

-- what division gives, and its bound
pub divided : (a b c p : Position) (x y z s u v w : ℕ) → AreWeights a b c p x y z s
    → IsDivided (weighted_sum a b c p u v w) (unsigned_abs (doubled_area a b c)) ((u * x + v * y + w * z) / s) ((u * x + v * y + w * z) % s)
divided a b c p x y z s u v w h =
    divided_of a b c p x y z s u v w _ _ h (division _ s (weights_positive a b c p x y z s h))

pub divided-bound : (a b c p : Position) (x y z s u v w m : ℕ) → AreWeights a b c p x y z s → u ≤ m → v ≤ m → w ≤ m → (u * x + v * y + w * z) / s ≤ m
divided-bound a b c p x y z s u v w m h i j k =
    quotient-bound _ s m (weights_positive a b c p x y z s h) (products-bound a b c p x y z s u v w m h i j k)

-- three equal values give that value
pub equal : (a b c p : Position) (x y z s u : ℕ) → AreWeights a b c p x y z s → IsDivided (weighted_sum a b c p u u u) (unsigned_abs (doubled_area a b c)) u 0
equal a b c p x y z s u h =
    let all = ap (λ n. u * n) (weights_total a b c p x y z s h) in
    let some = weights_positive a b c p x y z s h in
    divided_of a b c p x y z s u u u u 0 h (record { sum = omega arith; less = some })

-- the quotient of a division is the value
pub value_of : (n d q r : ℕ) → IsDivided n d q r → IsQuotient n d q
value_of n d q r h = record { low = omega (arith, h.sum); high = omega (arith, h.sum, h.less) }
