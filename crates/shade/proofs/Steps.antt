-- How a weighted sum changes from a covered point to the one a pixel to the right, and its division by the area.
use Rattle.std.proofs.Common.{◌≡◌, refl, ap, ◌∙◌, sym, [], ◌∷◌, arith, ℕ, zero, suc, ◌+◌, ◌-◌, ◌*◌, ◌/◌, ◌%◌, ◌<◌, ◌≤◌, ◌^◌, w64, to_z, of_z, ℤ, pos, negsuc, neg_ℤ, ◌+ℤ◌, ◌-ℤ◌, ◌*ℤ◌, ◌<ℤ◌, ◌≤ℤ◌}
use Rattle.std.proofs.Math.Nat.{lt_of_mul-lt-mul_right}
use lib.IntN.{nat_abs}
use Rattle.std.proofs.lemmas.Int.{ints, to_z-of_z}
use Rattle.std.specs.Int.RustNames.{unsigned_abs}
use Rattle.grid.specs.Bounds.{IsWithin}
use Rattle.grid.specs.Position.{Position, right_of}
use Rattle.grid.specs.Edge.{side}
use Rattle.grid.specs.Triangle.{doubled_area, Covers}
use Rattle.grid.proofs.Between.{over, under, sides_of_sign}
use Rattle.grid.proofs.Identities.{side-right}
use Rattle.grid.proofs.Ring.{var, lit, plus, neg, times, ring, mul_add, add_mul}
use Rattle.shade.specs.Value.{weighted_sum}
use Rattle.shade.specs.declared.step.Step.{Step}
use Rattle.shade.specs.Row.{IsChange, IsSplit, IsDivided, Are16Bit, IsRowAt}
use Rattle.shade.proofs.Values.{weighted_sum-bound}

-- ---- the change of an edge function
pub rightward : (a b p : Position) (r : ℤ) → r ≡ pos 256 *ℤ (a.y -ℤ b.y) → side a b (right_of p) ≡ side a b p +ℤ r
rightward a b p r e = side-right a b p ∙ ap (λ z. side a b p +ℤ z) (sym e)

-- ---- the change of a weighted sum
-- a value times the absolute value of a number of known sign
pub scaled_over : (u : ℕ) (x : ℤ) → pos 0 ≤ℤ x → pos (u * unsigned_abs x) ≡ pos u *ℤ x
scaled_over u (pos n) h = omega (arith, ints)
scaled_over u (negsuc n) h = absurd (omega (arith, ints))

pub scaled_under : (u : ℕ) (x : ℤ) → x ≤ℤ pos 0 → pos (u * unsigned_abs x) ≡ neg_ℤ (pos u *ℤ x)
scaled_under u (pos zero) h = omega (arith, ints)
scaled_under u (pos (suc n)) h = absurd (omega (arith, ints))
scaled_under u (negsuc n) h = omega (arith, ints)

-- the sum of the values, each times the edge function of the opposite edge
unfoldable pub signed_sum : Position → Position → Position → Position → ℕ → ℕ → ℕ → ℤ
signed_sum a b c p u v w = pos u *ℤ side b c p +ℤ pos v *ℤ side c a p +ℤ pos w *ℤ side a b p

pub sum_over : (a b c p : Position) (u v w : ℕ) → pos 0 ≤ℤ side b c p → pos 0 ≤ℤ side c a p → pos 0 ≤ℤ side a b p → pos (weighted_sum a b c p u v w) ≡ signed_sum a b c p u v w
unfolding weighted_sum signed_sum
sum_over a b c p u v w h k l =
    omega (arith, ints, scaled_over u (side b c p) h, scaled_over v (side c a p) k, scaled_over w (side a b p) l)

pub sum_under : (a b c p : Position) (u v w : ℕ) → side b c p ≤ℤ pos 0 → side c a p ≤ℤ pos 0 → side a b p ≤ℤ pos 0 → pos (weighted_sum a b c p u v w) ≡ neg_ℤ (signed_sum a b c p u v w)
unfolding weighted_sum signed_sum
sum_under a b c p u v w h k l =
    omega (arith, ints, scaled_under u (side b c p) h, scaled_under v (side c a p) k, scaled_under w (side a b p) l)

scaled_right : (a b p : Position) (u : ℕ) (r : ℤ) → side a b (right_of p) ≡ side a b p +ℤ r → pos u *ℤ side a b (right_of p) ≡ pos u *ℤ side a b p +ℤ pos u *ℤ r
scaled_right a b p u r e = ap (λ z. pos u *ℤ z) e ∙ mul_add (pos u) (side a b p) r

-- the changes of the three edge functions
pub record AreChanges (a b c : Position) (first second third : ℤ) : Type 0 where
  pub of_bc : (p : Position) → side b c (right_of p) ≡ side b c p +ℤ first
  pub of_ca : (p : Position) → side c a (right_of p) ≡ side c a p +ℤ second
  pub of_ab : (p : Position) → side a b (right_of p) ≡ side a b p +ℤ third

signed_right : (a b c p : Position) (u v w : ℕ) (first second third : ℤ) → AreChanges a b c first second third
    → signed_sum a b c (right_of p) u v w ≡ signed_sum a b c p u v w +ℤ (pos u *ℤ first +ℤ pos v *ℤ second +ℤ pos w *ℤ third)
unfolding signed_sum
signed_right a b c p u v w first second third h =
    omega (arith, ints, scaled_right b c p u first (h.of_bc p), scaled_right c a p v second (h.of_ca p), scaled_right a b p w third (h.of_ab p))

pub change_over : (a b c : Position) (u v w : ℕ) (first second third change : ℤ) → AreChanges a b c first second third → pos 0 ≤ℤ side a b c
    → change ≡ pos u *ℤ first +ℤ pos v *ℤ second +ℤ pos w *ℤ third → IsChange a b c u v w change
change_over a b c u v w first second third change h positive e = λ p covered covered'.
    elim (sides_of_sign a b c p covered) [
      | over s x y z ↦ elim (sides_of_sign a b c (right_of p) covered') [
        | over s' x' y' z' ↦
            omega (arith, ints, e, sum_over a b c p u v w x y z, sum_over a b c (right_of p) u v w x' y' z', signed_right a b c p u v w first second third h)
        | under s' x' y' z' ↦ absurd (omega (arith, ints))
      ]
      | under s x y z ↦ absurd (omega (arith, ints))
    ]

pub change_under : (a b c : Position) (u v w : ℕ) (first second third change : ℤ) → AreChanges a b c first second third → side a b c <ℤ pos 0
    → change ≡ neg_ℤ (pos u *ℤ first +ℤ pos v *ℤ second +ℤ pos w *ℤ third) → IsChange a b c u v w change
change_under a b c u v w first second third change h negative e = λ p covered covered'.
    elim (sides_of_sign a b c p covered) [
      | over s x y z ↦ absurd (omega (arith, ints))
      | under s x y z ↦ elim (sides_of_sign a b c (right_of p) covered') [
        | over s' x' y' z' ↦ absurd (omega (arith, ints))
        | under s' x' y' z' ↦
            omega (arith, ints, e, sum_under a b c p u v w x y z, sum_under a b c (right_of p) u v w x' y' z', signed_right a b c p u v w first second third h)
      ]
    ]

-- ---- numbers as the code passes them
pub scaled_is : (result r : ℤ) (n m : ℕ) → IsWithin (2 ^ 32) r → n ≡ m → result ≡ pos n *ℤ to_z w64 (of_z w64 r) → result ≡ pos m *ℤ r
scaled_is result r n m h e k =
    let passed : to_z w64 (of_z w64 r) ≡ r = to_z-of_z w64 r (omega (arith, ints)) in
    k ∙ ap (λ z. pos n *ℤ z) passed ∙ ap (λ i. pos i *ℤ r) e

pub sum_is : (result a b c x y z : ℤ) → IsWithin (2 ^ 48) a → IsWithin (2 ^ 48) b → IsWithin (2 ^ 48) c → a ≡ x → b ≡ y → c ≡ z
    → result ≡ to_z w64 (of_z w64 a) +ℤ to_z w64 (of_z w64 b) +ℤ to_z w64 (of_z w64 c) → result ≡ x +ℤ y +ℤ z
sum_is result a b c x y z h k l e f g i = omega (arith, ints)

pub kept_is : (sum x : ℤ) → IsWithin (2 ^ 50) sum → sum ≡ x → to_z w64 (of_z w64 sum) ≡ x
kept_is sum x h e = omega (arith, ints)

pub negated_is : (sum x : ℤ) → IsWithin (2 ^ 50) sum → sum ≡ x → to_z w64 (of_z w64 (pos 0 -ℤ to_z w64 (of_z w64 sum))) ≡ neg_ℤ x
negated_is sum x h e = omega (arith, ints)

pub negated-within : (sum : ℤ) → IsWithin (2 ^ 50) sum → IsWithin (2 ^ 50) (to_z w64 (of_z w64 (pos 0 -ℤ to_z w64 (of_z w64 sum))))
negated-within sum h = record { low = omega (arith, ints); high = omega (arith, ints) }

-- ---- division by the area
-- a number that is not negative, and one that is negative, by quotient and remainder
pub split_over : (n d : ℕ) → 0 < d → pos n ≡ pos (n / d) *ℤ pos d +ℤ pos (n % d)
split_over n d h = omega (arith, ints)

pub split_under : (n d : ℕ) → 0 < d → neg_ℤ (pos n) ≡ (neg_ℤ (pos (n / d)) -ℤ pos 1) *ℤ pos d +ℤ (pos d -ℤ pos (n % d))
split_under n d h =
    let whole = split_over n d h in
    let product = sub_one_mul (pos (n / d)) (pos d) in
    omega (arith, ints)
  where
    sub_one_mul : (q d : ℤ) → (neg_ℤ q -ℤ pos 1) *ℤ d ≡ neg_ℤ (q *ℤ d) -ℤ d
    sub_one_mul q d = ring (q ∷ d ∷ []) (times (plus (neg (var 0)) (neg (lit (pos 1)))) (var 1)) (plus (neg (times (var 0) (var 1))) (neg (var 1))) refl

-- ---- a step
-- the quotient and the remainder of a number that is not negative
pub record IsNext (n d : ℕ) (q : ℤ) (r : ℕ) : Type 0 where
  pub quotient : ℕ
  pub is : q ≡ pos quotient
  pub sum : n ≡ quotient * d + r

pub next : (n d r : ℕ) (q : ℤ) → r < d → pos n ≡ q *ℤ pos d +ℤ pos r → IsNext n d q r
next n d r (pos q) h e = record { quotient = q; is = refl; sum = omega (arith, ints) }
next n d r (negsuc q) h e = absurd (omega (arith, ints))

-- it is at most the bound of the number
pub next-bound : (n d m q r : ℕ) → 0 < d → n ≡ q * d + r → n ≤ m * d → q ≤ m
next-bound n d m q r some e most =
    let less : q * d < (m + 1) * d = omega (arith, e, most, some) in
    let below : q < m + 1 = lt_of_mul-lt-mul_right d less in
    omega arith

-- the quotient of a negative number as the code forms it
pub split_negative : (change : ℤ) (n d q r : ℕ) → 0 < d → d ≤ 2 ^ 48 → IsWithin (2 ^ 50) change → change <ℤ pos 0 → n ≡ unsigned_abs change → q ≡ n / d → r ≡ n % d → (r ≡ 0 → ⊥)
    → IsSplit change d (record { quotient = neg_ℤ (pos q) -ℤ pos 1; remainder = d - r; area = d })
split_negative change n d q r some bound size negative is e f left =
    let whole = split_under n d some in
    let less : n % d < d = omega (arith, some) in
    let few : n / d ≤ n = omega arith in
    record {
      of_area = refl;
      sum = rw (e, f) (omega (arith, ints));
      less = omega arith;
      size = record { low = omega (arith, ints); high = omega (arith, ints) };
    }

pub code_quotient : (n d : ℕ) → 0 < d → n ≤ 2 ^ 50
    → to_z w64 (of_z w64 (to_z w64 (of_z w64 (pos 0 -ℤ to_z w64 (n / d))) -ℤ pos 1)) ≡ neg_ℤ (pos (n / d)) -ℤ pos 1
code_quotient n d some h =
    let few : n / d ≤ n = omega arith in
    omega (arith, ints)

-- ---- a row's step
-- The value after a step, which adds this quotient and leaves this remainder.
pub record IsNextValue (a b c p : Position) (u v w : ℕ) (q : ℤ) (r : ℕ) : Type 0 where
  pub value : ℕ
  pub is : q ≡ pos value
  pub few : value ≤ 65535
  pub divided : IsDivided (weighted_sum a b c (right_of p) u v w) (unsigned_abs (doubled_area a b c)) value r

next_value : (a b c p : Position) (u v w s r : ℕ) (q : ℤ) → Covers a b c (right_of p) → Are16Bit u v w → s ≡ unsigned_abs (doubled_area a b c) → r < s
    → pos (weighted_sum a b c (right_of p) u v w) ≡ q *ℤ pos s +ℤ pos r → IsNextValue a b c p u v w q r
next_value a b c p u v w s r q covered small area less sum =
    let after = next (weighted_sum a b c (right_of p) u v w) s r q less sum in
    let most = weighted_sum-bound a b c (right_of p) u v w 65535 covered small.first small.second small.third in
    record {
      value = after.quotient;
      is = after.is;
      few = next-bound _ s 65535 after.quotient r (omega (arith, less)) after.sum (rw area most);
      divided = rw (← area) (record { sum = after.sum; less = less });
    }

-- the sum at the next point, from the value here
next_sum : (a b c p : Position) (u v w value remainder : ℕ) (step : Step) → IsRowAt a b c p u v w value remainder step → Covers a b c (right_of p)
    → pos (weighted_sum a b c (right_of p) u v w) ≡ (pos value +ℤ step.quotient) *ℤ pos step.area +ℤ pos (remainder + step.remainder)
next_sum a b c p u v w value remainder step h covered =
    let area : unsigned_abs (doubled_area a b c) ≡ step.area = sym h.is_step.of_all ∙ sym h.is_step.split.of_area in
    let here : weighted_sum a b c p u v w ≡ value * step.area + remainder = rw area at h.divided.sum in
    let change : h.is_step.change ≡ step.quotient *ℤ pos step.area +ℤ pos step.remainder = rw (← h.is_step.split.of_area) at h.is_step.split.sum in
    let product = add_mul (pos value) step.quotient (pos step.area) in
    omega (arith, ints, here, change, h.is_step.is_change p h.covered covered)

-- the remainders do not reach the area
pub next_below : (a b c p : Position) (u v w value remainder : ℕ) (step : Step) → IsRowAt a b c p u v w value remainder step → Covers a b c (right_of p)
    → remainder + step.remainder < step.area → IsNextValue a b c p u v w (pos value +ℤ step.quotient) (remainder + step.remainder)
next_below a b c p u v w value remainder step h covered less =
    let area : step.area ≡ unsigned_abs (doubled_area a b c) = h.is_step.split.of_area ∙ h.is_step.of_all in
    next_value a b c p u v w step.area _ _ covered h.small area less (next_sum a b c p u v w value remainder step h covered)

-- they reach it
pub next_above : (a b c p : Position) (u v w value remainder : ℕ) (step : Step) → IsRowAt a b c p u v w value remainder step → Covers a b c (right_of p)
    → step.area ≤ remainder + step.remainder → IsNextValue a b c p u v w (pos value +ℤ step.quotient +ℤ pos 1) (remainder + step.remainder - step.area)
next_above a b c p u v w value remainder step h covered more =
    let area : step.area ≡ unsigned_abs (doubled_area a b c) = h.is_step.split.of_area ∙ h.is_step.of_all in
    let here : remainder < step.area = rw area h.divided.less in
    let less : step.remainder < step.area = rw h.is_step.split.of_area h.is_step.split.less in
    let product = add_mul (pos value +ℤ step.quotient) (pos 1) (pos step.area) in
    next_value a b c p u v w step.area _ _ covered h.small area (omega (arith, here, less, more))
    (omega (arith, ints, product, more, next_sum a b c p u v w value remainder step h covered))

-- ---- numbers as the step's code forms them
-- a value at an `i64`, moved by a quotient
pub value_at : (value : ℕ) (from q : ℤ) → value ≤ 65535 → from ≡ pos value → IsWithin (2 ^ 51) q → to_z w64 (of_z w64 (to_z w64 (of_z w64 from) +ℤ to_z w64 (of_z w64 q))) ≡ pos value +ℤ q
value_at value from q few e h = omega (arith, ints)

pub value_more : (value : ℕ) (from q : ℤ) → value ≤ 65535 → from ≡ pos value → IsWithin (2 ^ 51) q
    → to_z w64 (of_z w64 (to_z w64 (of_z w64 (to_z w64 (of_z w64 from) +ℤ to_z w64 (of_z w64 q))) +ℤ pos 1)) ≡ pos value +ℤ q +ℤ pos 1
value_more value from q few e h = omega (arith, ints)

-- the row after a step
pub row_after : (a b c p : Position) (u v w value remainder r : ℕ) (q : ℤ) (step : Step) → IsRowAt a b c p u v w value remainder step → Covers a b c (right_of p)
    → (n : IsNextValue a b c p u v w q r) → IsRowAt a b c (right_of p) u v w n.value r step
row_after a b c p u v w value remainder r q step h covered n =
    record { covered = covered; divided = n.divided; is_step = h.is_step; small = h.small }

-- the fields after a step are those of the row there
pub row_is : (a b c p p' : Position) (u v w value remainder r : ℕ) (q code : ℤ) (step : Step) → IsRowAt a b c p u v w value remainder step → Covers a b c (right_of p)
    → p' ≡ right_of p → code ≡ q → IsNextValue a b c p u v w q r → IsRowAt a b c p' u v w (nat_abs code) r step
row_is a b c p p' u v w value remainder r q code step h covered e f n =
    let g : nat_abs code ≡ n.value = ap nat_abs (f ∙ n.is) in
    rw (e, g) (row_after a b c p u v w value remainder r q step h covered n)
