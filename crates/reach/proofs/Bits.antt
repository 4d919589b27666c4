-- The bits of a word.
use Rattle.std.proofs.Common.{◌≡◌, ◌≢◌, ◌↔◌, sym, ap, ◌∙◌, ℕ, ◌*◌, ◌^◌, ◌<◌, arith, IsBitSet, bit_and}
use Rattle.std.specs.Int.{bit_at}
use Rattle.std.proofs.Math.Nat.{zero-mul}
use Rattle.std.proofs.lemmas.Nat.{pow_pos}
use Rattle.std.proofs.lemmas.Nat.Bits.{and_pow, bit_at-lt, bit_at_and, bit_at-zero}

pub is_one : (n k : ℕ) → IsBitSet n k → bit_at n k ≡ 1
is_one n k h =
    let none : bit_at n k ≢ 0 = λ z. h (and_pow n k ∙ ap (λ b. b * 2 ^ k) z ∙ zero-mul (2 ^ k)) in
    let low : bit_at n k < 2 = bit_at-lt n k in
    omega arith

pub is_set : (n k : ℕ) → bit_at n k ≡ 1 → IsBitSet n k
is_set n k e z =
    let product : bit_at n k * 2 ^ k ≡ 0 = sym (and_pow n k) ∙ z in
    let power : 1 * 2 ^ k ≡ 0 = rw e at product in
    omega (arith, pow_pos k)

pub no_bit : (n k : ℕ) → n ≡ 0 → ¬ IsBitSet n k
no_bit n k none h =
    let one : bit_at 0 k ≡ 1 = rw none at (is_one n k h) in
    let least : bit_at 0 k ≡ 0 = bit_at-zero k in
    omega (arith, one, least)

-- ---- the bits that two words have in common
pub both_set : (a b i : ℕ) → (IsBitSet (bit_and a b) i ↔ (IsBitSet a i × IsBitSet b i))
both_set a b i =
    let least = bit_at_and a b i in
    let low_a : bit_at a i < 2 = bit_at-lt a i in
    let low_b : bit_at b i < 2 = bit_at-lt b i in (
      (λ set. let one = is_one (bit_and a b) i set in (is_set a i (omega (arith, one, least)), is_set b i (omega (arith, one, least)))),
      (λ sets. let one_a = is_one a i sets.0 in let one_b = is_one b i sets.1 in is_set (bit_and a b) i (omega (arith, one_a, one_b, least))),
    )
