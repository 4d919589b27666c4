-- Bits of masks in lanes.
use Rattle.std.proofs.Common.{◌≡◌, ◌≢◌, ◌∙◌, inl, inr, refl, sym, ap, subst, ℕ, zero, suc, ◌+◌, ◌-◌, ◌*◌, ◌/◌, ◌%◌, ◌^◌, ◌<◌, ◌≤◌, List, [], ◌∷◌, map, take, Bool, false, not, eqb, cond, length, get_or, replicate, bit_and, w64, arith}
use Rattle.std.specs.Int.{Width, bit_at, to_le_bytes}
use mir.Val.{bits, hbits}
use Rattle.std.specs.Simd.Lanes.{zip2, sel_l, top, mask_l}
use Rattle.std.proofs.lemmas.Bool.Decides.{eqb_tells}
use Rattle.std.proofs.lemmas.List.{get_or-take, length-take-le, get_or-map}
use Rattle.std.proofs.Math.Nat.{zero-mul}
use Rattle.shade.specs.Resolve.{total}
use Rattle.std.proofs.lemmas.Simd.{length-zip2, get_or-zip2, length-replicate, get_or-replicate, get_or-sel_l, bitmask_splat, bit_mask_l}
use Rattle.std.proofs.lemmas.Bool.{ne_eqb}
use Rattle.std.proofs.lemmas.Nat.{pow_pos, shr-shr, shr_split}
use Rattle.std.proofs.lemmas.Nat.Bits.{and_pow, bit_at-lt, bit_at-zero, bit_at_cat_low}

-- ---- lanes of 64 pixels
pub record AreLanes (v : List ℕ) (f : ℕ → ℕ) : Type 0 where
  pub long : length v ≡ 64
  pub each : (p : ℕ) → p < 64 → get_or v p 0 ≡ f p

pub zipped : (g : ℕ → ℕ → ℕ) (xs ys : List ℕ) (f h : ℕ → ℕ) → AreLanes xs f → AreLanes ys h → AreLanes (zip2 g xs ys) (λ p. g (f p) (h p))
zipped g xs ys f h a b =
    let p = a.long in
    let q = b.long in
    record {
      long = length-zip2 g xs ys (p ∙ sym q) ∙ p;
      each = λ k l. get_or-zip2 g xs ys k 0 0 0 (omega (arith, l, p)) (omega (arith, l, q)) ∙ (λ i. g (a.each k l i) (b.each k l i));
    }

pub splat : (x : ℕ) → AreLanes (replicate 64 x) (λ p. x)
splat x = record { long = length-replicate 64 x; each = λ p l. get_or-replicate 64 p x 0 l }

-- a list is lanes of its own values
pub itself : (xs : List ℕ) → length xs ≡ 64 → AreLanes xs (λ p. get_or xs p 0)
itself xs long = record { long = long; each = λ p l i. get_or xs p 0 }

-- a sum over one sample more
pub total_next : (n : ℕ) (f : ℕ → ℕ) → total n f + f n ≡ total (n + 1) f
total_next n f = let one : suc n ≡ n + 1 = omega arith in subst (λ m. total n f + f n ≡ total m f) one refl

-- ---- a choice by a test of each lane with one value
pub chosen : (t : ℕ → ℕ → Bool) (n x : ℕ) (lanes ys ns : List ℕ) → length lanes ≡ n → length ys ≡ n → length ns ≡ n → (k : ℕ) → k < n
    → get_or (sel_l (zip2 t lanes (replicate n x)) ys ns) k 0 ≡ cond (t (get_or lanes k 0) x) (get_or ys k 0) (get_or ns k 0)
chosen t n x lanes ys ns long p q k l =
    let all : length (replicate n x) ≡ n = length-replicate n x in
    let tests : length (zip2 t lanes (replicate n x)) ≡ n = length-zip2 t lanes (replicate n x) (long ∙ sym all) ∙ long in
    get_or-sel_l (zip2 t lanes (replicate n x)) ys ns k 0 (omega (arith, tests, l)) (omega (arith, p, l)) (omega (arith, q, l))
    ∙ ap (λ m. cond m (get_or ys k 0) (get_or ns k 0)) (get_or-zip2 t lanes (replicate n x) k 0 0 false (omega (arith, long, l)) (omega (arith, all, l)) ∙ ap (t (get_or lanes k 0)) (get_or-replicate n k x 0 l))

-- ---- lanes none of which is another value
pub none_other : (w : Width) (xs : List ℕ) (n x : ℕ) → length xs ≡ n → n ≤ 64 → mask_l (map (top (hbits w)) (zip2 (λ a b. cond (not (eqb a b)) (2 ^ bits w - 1) 0) xs (replicate n x))) % 2 ^ 64 ≡ 0 → (i : ℕ) → i < n → get_or xs i 0 ≡ x
none_other w xs n x long few none i l =
    let zero : mask_l (map (λ a. not (eqb a x)) xs) ≡ 0 = sym (bitmask_splat w (λ a b. not (eqb a b)) xs n x long few) ∙ none in
    let clear : bit_at (mask_l (map (λ a. not (eqb a x)) xs)) i ≡ 0 = ap (λ m. bit_at m i) zero ∙ bit_at-zero i in
    let bit : bit_at (mask_l (map (λ a. not (eqb a x)) xs)) i ≡ cond (get_or (map (λ a. not (eqb a x)) xs) i false) 1 0 = bit_mask_l (map (λ a. not (eqb a x)) xs) i in
    elim (eqb_tells (get_or xs i 0) x) [
      | inl same ↦ same.1
      | inr other ↦
          let set : cond {A = ℕ} (get_or (map (λ a. not (eqb a x)) xs) i false) 1 0 ≡ 1 = ap (λ b. cond {A = ℕ} b 1 0) (get_or-map (λ a. not (eqb a x)) xs i 0 false (omega (arith, long, l)) ∙ ap not other.0) in
          absurd (omega (arith, clear, bit, set))
    ]

-- the values of a part of an array, of which none is other than the first
pub none_other_of : (w : Width) (xs : List ℕ) → length xs ≡ 64 → mask_l (map (top (hbits w)) (zip2 (λ a b. cond (not (eqb a b)) (2 ^ bits w - 1) 0) (take 64 xs) (replicate 64 (get_or xs 0 0)))) % 2 ^ 64 ≡ 0 → (p : ℕ) → p < 64 → get_or xs p 0 ≡ get_or xs 0 0
none_other_of w xs long none p l =
    sym (get_or-take 64 xs p 0 l) ∙ none_other w (take 64 xs) 64 (get_or xs 0 0) (length-take-le 64 xs (omega (arith, long))) (omega arith) none p l

-- no value is another one
no_other : (xs : List ℕ) (x : ℕ) → ((i : ℕ) → i < length xs → get_or xs i 0 ≡ x) → mask_l (map (λ a. not (eqb a x)) xs) ≡ 0
no_other [] x all = refl
no_other (y ∷ ys) x all =
    let rest = no_other ys x (λ k l. all (suc k) (omega (arith, l))) in
    elim (eqb_tells y x) [
      | inl same ↦ (λ i. cond (not (same.0 i)) 1 zero + 2 * rest i)
      | inr other ↦ absurd (other.1 (all 0 (omega arith)))
    ]

pub all_same_of : (w : Width) (xs : List ℕ) → length xs ≡ 64 → ((p : ℕ) → p < 64 → get_or xs p 0 ≡ get_or xs 0 0) → mask_l (map (top (hbits w)) (zip2 (λ a b. cond (not (eqb a b)) (2 ^ bits w - 1) 0) (take 64 xs) (replicate 64 (get_or xs 0 0)))) % 2 ^ 64 ≡ 0
all_same_of w xs long all =
    let part : length (take 64 xs) ≡ 64 = length-take-le 64 xs (omega (arith, long)) in
    bitmask_splat w (λ a b. not (eqb a b)) (take 64 xs) 64 (get_or xs 0 0) part (omega arith)
    ∙ no_other (take 64 xs) (get_or xs 0 0) (λ i l. (let small : i < 64 = omega (arith, l, part) in get_or-take 64 xs i 0 small ∙ all i small))

-- ---- bits
-- those of a part of a number
pub bit_of_part : (n j w k : ℕ) → k < w → bit_at (n / 2 ^ j % 2 ^ w) k ≡ bit_at n (j + k)
bit_of_part n j w k l =
    let m = n / 2 ^ j in
    let parts : m / 2 ^ w * 2 ^ w + m % 2 ^ w ≡ m = shr_split m w in
    sym (bit_at_cat_low (m / 2 ^ w) w (m % 2 ^ w) k l) ∙ ap (λ z. bit_at z k) parts ∙ ap (λ z. z % 2) (shr-shr n j k)

-- a bit, tested by its power
pub tested_bit : (n k : ℕ) → cond (not (eqb (bit_and n (2 ^ k)) 0)) 1 0 ≡ bit_at n k
tested_bit n k = ap (λ m. cond (not (eqb m 0)) 1 0) (and_pow n k) ∙ by_bit (bit_at n k) (2 ^ k) (bit_at-lt n k) (pow_pos k)
  where
    by_bit : (b p : ℕ) → b < 2 → 0 < p → cond (not (eqb (b * p) 0)) 1 0 ≡ b
    by_bit zero p low some = ap (λ m. cond (not (eqb m 0)) 1 0) (zero-mul p)
    by_bit (suc zero) p low some =
        let one : suc zero * p ≢ 0 = λ e. omega (arith, e, some) in
        ap (λ (t : Bool). cond {A = ℕ} (not t) 1 0) (ne_eqb (suc zero * p) 0 one)
    by_bit (suc (suc b)) p low some = absurd (omega (arith, low))

-- the bytes of a mask, one for each row
pub row_of_mask : (mask r : ℕ) → r < 8 → get_or (to_le_bytes w64 mask) r 0 ≡ mask / 2 ^ (8 * r) % 2 ^ 8
row_of_mask mask zero l = omega arith
row_of_mask mask (suc zero) l = omega arith
row_of_mask mask (suc (suc zero)) l = omega arith
row_of_mask mask (suc (suc (suc zero))) l = omega arith
row_of_mask mask (suc (suc (suc (suc zero)))) l = omega arith
row_of_mask mask (suc (suc (suc (suc (suc zero))))) l = omega arith
row_of_mask mask (suc (suc (suc (suc (suc (suc zero)))))) l = omega arith
row_of_mask mask (suc (suc (suc (suc (suc (suc (suc zero))))))) l = omega arith
row_of_mask mask (suc (suc (suc (suc (suc (suc (suc (suc r)))))))) l = absurd (omega (arith, l))
