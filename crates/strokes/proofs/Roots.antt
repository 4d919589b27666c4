-- Half of a root, rounded down, is a threshold.
use Rattle.std.proofs.Common.{◌≡◌, ◌↔◌, inl, inr, arith, ℕ, ◌+◌, ◌*◌, ◌/◌, ◌%◌, ◌≤◌, ◌<◌, ℤ, pos, negsuc, ◌-ℤ◌, ◌≤ℤ◌, Bool, false, IsTrue}
use Rattle.std.proofs.lemmas.Int.{ints}
use Rattle.std.proofs.lemmas.Nat.{mul-le, mul-lt}
use Rattle.std.proofs.lemmas.Bool.{cases_order, cases_lt}
use Rattle.strokes.specs.Border.{IsWithinRoot}

pub square_le : (a b : ℕ) → a ≤ b → a * a ≤ b * b
square_le a b h = mul-le a a b b h h

pub square_lt : (a b : ℕ) → a < b → a * a < b * b
square_lt a b h = mul-lt a a b b h h

pub half_low : (k n : ℕ) → k * k ≤ n → 4 * ((k / 2) * (k / 2)) ≤ n
half_low k n h =
    let l : 2 * (k / 2) ≤ k = omega arith in
    let s : (2 * (k / 2)) * (2 * (k / 2)) ≤ k * k = square_le (2 * (k / 2)) k l in
    omega (arith, s, h)

pub half_high : (k n : ℕ) → n < (k + 1) * (k + 1) → n < 4 * ((k / 2 + 1) * (k / 2 + 1))
half_high k n h =
    let l : k + 1 ≤ 2 * (k / 2 + 1) = omega arith in
    let s : (k + 1) * (k + 1) ≤ (2 * (k / 2 + 1)) * (2 * (k / 2 + 1)) = square_le (k + 1) (2 * (k / 2 + 1)) l in
    omega (arith, s, h)

-- the root is even, and a whole number
pub reached : (k n : ℕ) → k * k ≤ n → 4 * ((k / 2) * (k / 2)) ≡ n → (k % 2 ≡ 0) × (k * k ≡ n)
reached k n h e =
    elim (cases_lt (2 * (k / 2)) k) [
      | inl l ↦ absurd (let s : (2 * (k / 2)) * (2 * (k / 2)) < k * k = square_lt (2 * (k / 2)) k l in omega (arith, s, h, e))
      | inr l ↦
          let d : 2 * (k / 2) ≡ k = omega (arith, l) in
          let s : (2 * (k / 2)) * (2 * (k / 2)) ≤ k * k = square_le (2 * (k / 2)) k (omega (arith, d)) in
          (omega (arith, d), omega (arith, s, h, e))
    ]

pub is_reached : (k n : ℕ) → k % 2 ≡ 0 → k * k ≡ n → 4 * ((k / 2) * (k / 2)) ≡ n
is_reached k n even e =
    let d : 2 * (k / 2) ≡ k = omega (arith, even) in
    let s : k * k ≤ (2 * (k / 2)) * (2 * (k / 2)) = square_le k (2 * (k / 2)) (omega (arith, d)) in
    let t : (2 * (k / 2)) * (2 * (k / 2)) ≤ k * k = square_le (2 * (k / 2)) k (omega (arith, d)) in
    omega (arith, s, t, e)

-- f up to q, of which four squares are at most n
pub under : (q n : ℕ) (is_owned : Bool) (f : ℤ) → 4 * (q * q) ≤ n → (4 * (q * q) ≡ n → IsTrue is_owned) → f ≤ℤ pos q → IsWithinRoot n is_owned f
under q n is_owned (negsuc m) low tie l = inl (omega (arith, ints))
under q n is_owned (pos m) low tie l =
    let s : m * m ≤ q * q = square_le m q (omega (arith, ints, l)) in
    elim (cases_order (4 * (m * m)) n) [
      | inl e ↦ inr (inr (omega (arith, ints, e), tie (omega (arith, s, e, low))))
      | inr o ↦ elim o [ inl less ↦ inr (inl (omega (arith, ints, less))) | inr more ↦ absurd (omega (arith, s, low, more)) ]
    ]

-- f up to q - 1, of which four squares are n
pub under_tie : (q n : ℕ) (is_owned : Bool) (f : ℤ) → 4 * (q * q) ≡ n → f ≤ℤ (pos q -ℤ pos 1) → IsWithinRoot n is_owned f
under_tie q n is_owned (negsuc m) tie l = inl (omega (arith, ints))
under_tie q n is_owned (pos m) tie l =
    let s : m * m < q * q = square_lt m q (omega (arith, ints, l)) in
    inr (inl (omega (arith, ints, s, tie)))

-- the other way round: f past q is not within, nor is q itself at a tie that is not owned
pub over : (q n : ℕ) (is_owned : Bool) (f : ℤ) → n < 4 * ((q + 1) * (q + 1)) → IsWithinRoot n is_owned f → f ≤ℤ pos q
over q n is_owned (negsuc m) high within = omega (arith, ints)
over q n is_owned (pos m) high within =
    elim (cases_lt q m) [
      | inr l ↦ omega (arith, ints, l)
      | inl l ↦
          absurd (
          let s : (q + 1) * (q + 1) ≤ m * m = square_le (q + 1) m (omega (arith, l)) in
          elim within [
            | inl negative ↦ omega (arith, ints, negative)
            | inr rest ↦ elim rest [ inl less ↦ omega (arith, ints, less, s, high) | inr tie ↦ omega (arith, ints, tie.0, s, high) ]
          ])
    ]

pub over_tie : (q n : ℕ) (is_owned : Bool) (f : ℤ) → 4 * (q * q) ≡ n → (IsTrue is_owned → ⊥) → IsWithinRoot n is_owned f → f ≤ℤ (pos q -ℤ pos 1)
over_tie q n is_owned (negsuc m) e not_owned within = omega (arith, ints)
over_tie q n is_owned (pos m) e not_owned within =
    elim (cases_lt m q) [
      | inl l ↦ omega (arith, ints, l)
      | inr l ↦
          absurd (
          let s : q * q ≤ m * m = square_le q m l in
          elim within [
            | inl negative ↦ omega (arith, ints, negative)
            | inr rest ↦ elim rest [ inl less ↦ omega (arith, ints, less, s, e) | inr tie ↦ not_owned tie.1 ]
          ])
    ]

-- half the root is the threshold, unless it is a tie that is not owned
pub threshold : (k n : ℕ) (is_owned : Bool) (f : ℤ) → k * k ≤ n → n < (k + 1) * (k + 1) → (k % 2 ≡ 0 → k * k ≡ n → IsTrue is_owned) → (f ≤ℤ pos (k / 2)) ↔ IsWithinRoot n is_owned f
threshold k n is_owned f low high tie = (
  λ l. under (k / 2) n is_owned f (half_low k n low) (λ e. let r : (k % 2 ≡ 0) × (k * k ≡ n) = reached k n low e in tie r.0 r.1) l,
  λ w. over (k / 2) n is_owned f (half_high k n high) w,
)

-- and then the number before it is
pub threshold_tie : (k n : ℕ) (is_owned : Bool) (f : ℤ) → k % 2 ≡ 0 → k * k ≡ n → (IsTrue is_owned → ⊥) → (f ≤ℤ (pos (k / 2) -ℤ pos 1)) ↔ IsWithinRoot n is_owned f
threshold_tie k n is_owned f even e not_owned =
    (λ l. under_tie (k / 2) n is_owned f (is_reached k n even e) l, λ w. over_tie (k / 2) n is_owned f (is_reached k n even e) not_owned w)

pub not_true : (b : Bool) → b ≡ false → IsTrue b → ⊥
not_true b e h = grind (arith, e, h)
