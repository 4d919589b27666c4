-- One lane.
use Rattle.std.proofs.Common.{◌≡◌, ◌≢◌, ◌↔◌, ℕ, ◌+◌, ◌*◌, ◌/◌, ◌%◌, ◌^◌, ◌<◌, ◌≤◌, ◌∙◌, sym, ap, arith, bit_and, IsBitSet}
use Rattle.std.specs.Int.{bit_at}
use Rattle.std.proofs.Math.Nat.{div-div-eq-div-mul}
use Rattle.std.proofs.lemmas.Nat.{pow_pos, pow-add, and_mask, and_comm}
use Rattle.std.proofs.lemmas.Nat.Bits.{and_pow, bit_at-lt, bit_at-zero, bit_at_cat_low}
use Rattle.std.proofs.Math.Nat.{zero-mul}
use Rattle.shade.specs.Quotient.{IsQuotient}

-- ---- the mean of four
pub lane_mean : (a b c d : ℕ) → a ≤ 255 → b ≤ 255 → c ≤ 255 → d ≤ 255
    → ((((a + b) % 65536 + c) % 65536 + d) % 65536 + 2) % 65536 / 4 ≡ (a + b + c + d + 2) / 4
lane_mean a b c d i j k l = omega arith

pub mean-bound : (a b c d : ℕ) → a ≤ 255 → b ≤ 255 → c ≤ 255 → d ≤ 255 → (a + b + c + d + 2) / 4 ≤ 255
mean-bound a b c d i j k l = omega arith

pub mean_is : (n : ℕ) → IsQuotient n 4 (n / 4)
mean_is n = record { low = omega arith; high = omega arith }

-- ---- bits
pub all_and : (n : ℕ) → n < 65536 → bit_and 65535 n ≡ n
all_and n h =
    let low : bit_and n 65535 ≡ n % 65536 = and_mask n 16 in
    let whole : n % 65536 ≡ n = omega arith in
    and_comm 65535 n ∙ low ∙ whole

pub is_one : (n k : ℕ) → IsBitSet n k → bit_at n k ≡ 1
is_one n k h =
    let none : bit_at n k ≢ 0 = λ z. h (and_pow n k ∙ ap (λ b. b * 2 ^ k) z ∙ zero-mul (2 ^ k)) in
    let low : bit_at n k < 2 = bit_at-lt n k in
    omega arith

pub is_set : (n k : ℕ) → bit_at n k ≡ 1 → IsBitSet n k
is_set n k e z =
    let product : bit_at n k * 2 ^ k ≡ 0 = sym (and_pow n k) ∙ z in
    let power : 1 * 2 ^ k ≡ 0 = rw e at product in
    omega (arith, pow_pos k)

-- a bit of a group of sixteen
group_bit : (n j k : ℕ) → k < 16 → bit_at (n / 2 ^ j % 65536) k ≡ bit_at n (j + k)
group_bit n j k l =
    let m = n / 2 ^ j in
    let parts : m / 65536 * 65536 + m % 65536 ≡ m = omega arith in
    sym (bit_at_cat_low (m / 65536) 16 (m % 65536) k l) ∙ ap (λ z. bit_at z k) parts ∙ ap (λ z. z % 2) (div-div-eq-div-mul n (2 ^ j) (2 ^ k) ∙ ap (λ d. n / d) (sym (pow-add 2 j k)))

pub in_group : (n j k : ℕ) → k < 16 → IsBitSet (n / 2 ^ j % 65536) k ↔ IsBitSet n (j + k)
in_group n j k l = (λ h. is_set n (j + k) (sym (group_bit n j k l) ∙ is_one _ k h), λ h. is_set _ k (group_bit n j k l ∙ is_one n (j + k) h))

pub none_set : (k : ℕ) → ¬ IsBitSet 0 k
none_set k h = let bad : ◌≡◌ {A = ℕ} 0 1 = sym (bit_at-zero k) ∙ is_one 0 k h in omega arith
