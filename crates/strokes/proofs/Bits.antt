-- The bits of words.
use Rattle.std.proofs.Common.{◌≡◌, ◌↔◌, ◌⊎◌, inl, inr, ap, arith, ℕ, ◌-◌, ◌*◌, ◌%◌, ◌^◌, ◌<◌, ◌≤◌, bit_or}
use Rattle.std.proofs.lemmas.Bool.{cases_lt, cases_eq}
use Rattle.std.proofs.lemmas.Nat.{pow_below}
use Rattle.std.proofs.lemmas.Nat.Bits.{bit_at-lt, bit_at_or, bit_at_mask_inside, bit_at_mask_below, bit_at_mask_above}
use Rattle.std.specs.Int.{bit_at}

pub pow_most : (i j : ℕ) → i ≤ j → 2 ^ i ≤ 2 ^ j
pow_most i j h = elim (cases_eq i j) [
  | inl e ↦ let same = ap (λ k. 2 ^ k) e in omega (arith, same)
  | inr apart ↦ omega (arith, pow_below i j (omega (arith, h, apart)))
]

-- 1 << k as code computes it, in 128 bits
pub one_up : (k : ℕ) → k ≤ 64 → 1 * 2 ^ k % 2 ^ 128 ≡ 2 ^ k
one_up k h = let most = pow_most k 64 h in omega (arith, most)

ones_between : (low high i : ℕ) → (bit_at (2 ^ high - 2 ^ low) i ≡ 1) ↔ ((low ≤ i) × (i < high))
ones_between low high i = (
  (λ set. (
    elim (cases_lt i low) [
      | inl less ↦ let none = bit_at_mask_below low high i less in absurd (omega (arith, set, none))
      | inr more ↦ more
    ],
    elim (cases_lt i high) [
      | inl less ↦ less
      | inr more ↦ let none = bit_at_mask_above low high i more in absurd (omega (arith, set, none))
    ],
  )),
  (λ h. bit_at_mask_inside low high i h.0 h.1),
)

pub run_of_ones : (bits low high i : ℕ) → bits ≡ 2 ^ high - 2 ^ low → (bit_at bits i ≡ 1) ↔ ((low ≤ i) × (i < high))
run_of_ones bits low high i e = rw e (ones_between low high i)

pub either_bit : (a b i : ℕ) → (bit_at (bit_or a b) i ≡ 1) ↔ ((bit_at a i ≡ 1) ⊎ (bit_at b i ≡ 1))
either_bit a b i =
    let or = bit_at_or a b i in
    let low_a = bit_at-lt a i in
    let low_b = bit_at-lt b i in (
      (λ set. elim (cases_eq (bit_at a i) 1) [
        | inl one ↦ inl one
        | inr other ↦ inr (omega (arith, set, or, low_a, low_b, other))
      ]),
      (λ h. elim h [
        | inl one ↦ omega (arith, one, or, low_b)
        | inr one ↦ omega (arith, one, or, low_a)
      ]),
    )
