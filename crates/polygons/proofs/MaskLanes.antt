-- Bits of masks in lanes.
use Rattle.std.proofs.Common.{◌≡◌, ◌≢◌, ◌∙◌, sym, ap, ℕ, zero, suc, ◌+◌, ◌*◌, ◌/◌, ◌%◌, ◌^◌, ◌<◌, List, Bool, false, not, eqb, cond, length, get_or, replicate, bit_and, w64, arith}
use Rattle.std.specs.Int.{bit_at, to_le_bytes}
use Rattle.std.specs.Simd.Lanes.{zip2, sel_l}
use Rattle.std.proofs.Math.Nat.{zero-mul}
use Rattle.std.proofs.lemmas.Simd.{length-zip2, get_or-zip2, length-replicate, get_or-replicate, get_or-sel_l}
use Rattle.std.proofs.lemmas.Bool.{ne_eqb}
use Rattle.std.proofs.lemmas.Nat.{pow_pos, shr-shr, shr_split}
use Rattle.std.proofs.lemmas.Nat.Bits.{and_pow, bit_at-lt, bit_at_cat_low}

-- ---- lanes of n numbers
pub record AreLanes (n : ℕ) (v : List ℕ) (f : ℕ → ℕ) : Type 0 where
  pub long : length v ≡ n
  pub each : (p : ℕ) → p < n → get_or v p 0 ≡ f p

pub zipped : (n : ℕ) (g : ℕ → ℕ → ℕ) (xs ys : List ℕ) (f h : ℕ → ℕ) → AreLanes n xs f → AreLanes n ys h → AreLanes n (zip2 g xs ys) (λ p. g (f p) (h p))
zipped n g xs ys f h a b =
    let p = a.long in
    let q = b.long in
    record {
      long = length-zip2 g xs ys (p ∙ sym q) ∙ p;
      each = λ k l. get_or-zip2 g xs ys k 0 0 0 (omega (arith, l, p)) (omega (arith, l, q)) ∙ (λ i. g (a.each k l i) (b.each k l i));
    }

pub splat : (n x : ℕ) → AreLanes n (replicate n x) (λ p. x)
splat n x = record { long = length-replicate n x; each = λ p l. get_or-replicate n p x 0 l }

-- a list is lanes of its own values
pub itself : (n : ℕ) (xs : List ℕ) → length xs ≡ n → AreLanes n xs (λ p. get_or xs p 0)
itself n xs long = record { long = long; each = λ p l i. get_or xs p 0 }

-- ---- a choice by a test of each lane with one value
pub chosen : (t : ℕ → ℕ → Bool) (n x : ℕ) (lanes ys ns : List ℕ) → length lanes ≡ n → length ys ≡ n → length ns ≡ n → (k : ℕ) → k < n
    → get_or (sel_l (zip2 t lanes (replicate n x)) ys ns) k 0 ≡ cond (t (get_or lanes k 0) x) (get_or ys k 0) (get_or ns k 0)
chosen t n x lanes ys ns long p q k l =
    let all : length (replicate n x) ≡ n = length-replicate n x in
    let tests : length (zip2 t lanes (replicate n x)) ≡ n = length-zip2 t lanes (replicate n x) (long ∙ sym all) ∙ long in
    get_or-sel_l (zip2 t lanes (replicate n x)) ys ns k 0 (omega (arith, tests, l)) (omega (arith, p, l)) (omega (arith, q, l))
    ∙ ap (λ m. cond m (get_or ys k 0) (get_or ns k 0)) (get_or-zip2 t lanes (replicate n x) k 0 0 false (omega (arith, long, l)) (omega (arith, all, l)) ∙ ap (t (get_or lanes k 0)) (get_or-replicate n k x 0 l))

-- ---- bits
-- those of a part of a number
pub bit_of_part : (n j w k : ℕ) → k < w → bit_at (n / 2 ^ j % 2 ^ w) k ≡ bit_at n (j + k)
bit_of_part n j w k l =
    let m = n / 2 ^ j in
    let parts : m / 2 ^ w * 2 ^ w + m % 2 ^ w ≡ m = shr_split m w in
    sym (bit_at_cat_low (m / 2 ^ w) w (m % 2 ^ w) k l) ∙ ap (λ z. bit_at z k) parts ∙ ap (λ z. z % 2) (shr-shr n j k)

-- a bit, tested by its power
pub tested_bit : (n k : ℕ) → cond (not (eqb (bit_and n (2 ^ k)) 0)) 1 0 ≡ bit_at n k
tested_bit n k = ap (λ m. cond (not (eqb m 0)) 1 0) (and_pow n k) ∙ by_bit (bit_at n k) (2 ^ k) (bit_at-lt n k) (pow_pos k)
  where
    by_bit : (b p : ℕ) → b < 2 → 0 < p → cond (not (eqb (b * p) 0)) 1 0 ≡ b
    by_bit zero p low some = ap (λ m. cond (not (eqb m 0)) 1 0) (zero-mul p)
    by_bit (suc zero) p low some =
        let one : suc zero * p ≢ 0 = λ e. omega (arith, e, some) in
        ap (λ (t : Bool). cond {A = ℕ} (not t) 1 0) (ne_eqb (suc zero * p) 0 one)
    by_bit (suc (suc b)) p low some = absurd (omega (arith, low))

-- the bytes of a mask, one for each row
pub row_of_mask : (mask r : ℕ) → r < 8 → get_or (to_le_bytes w64 mask) r 0 ≡ mask / 2 ^ (8 * r) % 2 ^ 8
row_of_mask mask zero l = omega arith
row_of_mask mask (suc zero) l = omega arith
row_of_mask mask (suc (suc zero)) l = omega arith
row_of_mask mask (suc (suc (suc zero))) l = omega arith
row_of_mask mask (suc (suc (suc (suc zero)))) l = omega arith
row_of_mask mask (suc (suc (suc (suc (suc zero))))) l = omega arith
row_of_mask mask (suc (suc (suc (suc (suc (suc zero)))))) l = omega arith
row_of_mask mask (suc (suc (suc (suc (suc (suc (suc zero))))))) l = omega arith
row_of_mask mask (suc (suc (suc (suc (suc (suc (suc (suc r)))))))) l = absurd (omega (arith, l))
