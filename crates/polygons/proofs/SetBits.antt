-- The set bits of a word, from the lowest one on.
use Rattle.std.proofs.Common.{◌≡◌, inl, inr, sym, ap, ◌∙◌, arith, ℕ, ◌+◌, ◌-◌, ◌/◌, ◌%◌, ◌^◌, ◌<◌, ◌≤◌, w64}
use Rattle.std.proofs.lemmas.Bool.{cases_lt}
use Rattle.std.proofs.lemmas.Nat.{shr-shr}
use Rattle.std.proofs.lemmas.Nat.Bits.{bit_at-zero, bit_at-trailing_zeros, bit_at_above}
use Rattle.std.specs.Int.{bit_at, trailing_zeros}

-- ---- the next set bit of a word whose first n bits are done
pub record IsNextBit (word n t : ℕ) : Type 0 where
  pub inside : n + t < 64
  pub set : bit_at word (n + t) ≡ 1
  pub none : (i : ℕ) → n ≤ i → i < n + t → bit_at word i ≡ 0

pub next_bit : (word left n : ℕ) → left ≡ word / 2 ^ n → word < 2 ^ 64 → left < 2 ^ 64 → (left ≡ 0 → ⊥) → IsNextBit word n (trailing_zeros w64 left)
next_bit word left n is small left_small some =
    let z = bit_at-trailing_zeros w64 left (omega arith) left_small in
    let further = λ (j : ℕ). ap (λ x. bit_at x j) is ∙ ap (λ x. x % 2) (shr-shr word n j) in
    let set = sym (further (trailing_zeros w64 left)) ∙ z.1 in
    record {
      inside = within (n + trailing_zeros w64 left) set;
      set = set;
      none = λ i h l. (let place : n + (i - n) ≡ i = omega arith in sym (ap (bit_at word) place) ∙ sym (further (i - n)) ∙ z.2 (i - n) (omega arith));
    }
  where
    within : (i : ℕ) → bit_at word i ≡ 1 → i < 64
    within i one = elim (cases_lt i 64) [ inl l ↦ l | inr l ↦ absurd (let zero = bit_at_above word 64 i small l in omega arith) ]

-- ---- no bit left
pub no_bits : (word left n : ℕ) → left ≡ word / 2 ^ n → left ≡ 0 → (i : ℕ) → n ≤ i → bit_at word i ≡ 0
no_bits word left n is none i h =
    let place : n + (i - n) ≡ i = omega arith in
    sym (ap (bit_at word) place) ∙ sym (ap (λ x. x % 2) (shr-shr word n (i - n))) ∙ sym (ap (λ x. bit_at x (i - n)) is) ∙ ap (λ x. bit_at x (i - n)) none ∙ bit_at-zero (i - n)
