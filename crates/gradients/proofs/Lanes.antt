-- Sixteen lanes, operation by operation.
use Rattle.std.proofs.Common.{◌≡◌, ℕ, zero, suc, ◌/◌, ◌%◌, ◌^◌, ◌<◌, List, Bool, true, false, cond, length, get_or, map, replicate, refl, sym, ap, ◌∙◌, arith}
use Rattle.std.specs.Int.{bit_at}
use Rattle.std.specs.Simd.Lanes.{zip2, sel_l, Each1, mask_l}
use Rattle.std.proofs.lemmas.Simd.{length-zip2, get_or-zip2, get_or-replicate, length-replicate, length-sel_l, get_or-sel_l, Each1-from_get_or, bit_mask_l}
use Rattle.std.proofs.lemmas.List.{get_or-map}
use Rattle.std.proofs.lemmas.Nat.Bits.{bit_at-zero}
use Rattle.gradients.specs.Lanes.{HasLanes}

pub itself : (v : List ℕ) → length v ≡ 16 → HasLanes v (λ k. get_or v k 0)
itself v long = record { long = long; each = λ k l. refl }

-- an operator on two vectors
pub zipped : (g : ℕ → ℕ → ℕ) (xs ys : List ℕ) (f h : ℕ → ℕ) → HasLanes xs f → HasLanes ys h → HasLanes (zip2 g xs ys) (λ k. g (f k) (h k))
zipped g xs ys f h a b =
    let p = a.long in
    let q = b.long in
    record {
      long = length-zip2 g xs ys (p ∙ sym q) ∙ p;
      each = λ k l. get_or-zip2 g xs ys k 0 0 0 (omega arith) (omega arith) ∙ (λ i. g (a.each k l i) (b.each k l i));
    }

pub splat : (x : ℕ) → HasLanes (replicate 16 x) (λ k. x)
splat x = record { long = length-replicate 16 x; each = λ k l. get_or-replicate 16 k x 0 l }

-- a choice by lanes' tests
pub chosen : (t : ℕ → ℕ → Bool) (a b ys ns : List ℕ) → length a ≡ 16 → length b ≡ 16 → length ys ≡ 16 → length ns ≡ 16
    → HasLanes (sel_l (zip2 t a b) ys ns) (λ k. cond (t (get_or a k 0) (get_or b k 0)) (get_or ys k 0) (get_or ns k 0))
chosen t a b ys ns p q r s =
    let long : length (zip2 t a b) ≡ 16 = length-zip2 t a b (p ∙ sym q) ∙ p in
    record {
      long = length-sel_l (zip2 t a b) ys ns (long ∙ sym r) (long ∙ sym s) ∙ long;
      each = λ k l.
          get_or-sel_l (zip2 t a b) ys ns k 0 (omega arith) (omega arith) (omega arith)
          ∙ ap (λ m. cond m (get_or ys k 0) (get_or ns k 0)) (get_or-zip2 t a b k 0 0 false (omega arith) (omega arith));
    }

-- a fact of each lane
pub of_each : (P : ℕ → Type 0) (v : List ℕ) → length v ≡ 16 → ((k : ℕ) → k < 16 → P (get_or v k 0)) → Each1 P v
of_each P v long h = Each1-from_get_or P v 0 (λ i l. h i (omega arith))

-- what is shown of each of the sixteen lanes
pub sixteen : (P : ℕ → Type 0) → P 0 → P 1 → P 2 → P 3 → P 4 → P 5 → P 6 → P 7 → P 8 → P 9 → P 10 → P 11 → P 12 → P 13 → P 14 → P 15 → (i : ℕ) → i < 16 → P i
sixteen P p0 p1 p2 p3 p4 p5 p6 p7 p8 p9 p10 p11 p12 p13 p14 p15 zero l = p0
sixteen P p0 p1 p2 p3 p4 p5 p6 p7 p8 p9 p10 p11 p12 p13 p14 p15 (suc zero) l = p1
sixteen P p0 p1 p2 p3 p4 p5 p6 p7 p8 p9 p10 p11 p12 p13 p14 p15 (suc (suc zero)) l = p2
sixteen P p0 p1 p2 p3 p4 p5 p6 p7 p8 p9 p10 p11 p12 p13 p14 p15 (suc (suc (suc zero))) l = p3
sixteen P p0 p1 p2 p3 p4 p5 p6 p7 p8 p9 p10 p11 p12 p13 p14 p15 (suc (suc (suc (suc zero)))) l = p4
sixteen P p0 p1 p2 p3 p4 p5 p6 p7 p8 p9 p10 p11 p12 p13 p14 p15 (suc (suc (suc (suc (suc zero))))) l = p5
sixteen P p0 p1 p2 p3 p4 p5 p6 p7 p8 p9 p10 p11 p12 p13 p14 p15 (suc (suc (suc (suc (suc (suc zero)))))) l = p6
sixteen P p0 p1 p2 p3 p4 p5 p6 p7 p8 p9 p10 p11 p12 p13 p14 p15 (suc (suc (suc (suc (suc (suc (suc zero))))))) l = p7
sixteen P p0 p1 p2 p3 p4 p5 p6 p7 p8 p9 p10 p11 p12 p13 p14 p15 (suc (suc (suc (suc (suc (suc (suc (suc zero)))))))) l = p8
sixteen P p0 p1 p2 p3 p4 p5 p6 p7 p8 p9 p10 p11 p12 p13 p14 p15 (suc (suc (suc (suc (suc (suc (suc (suc (suc zero))))))))) l = p9
sixteen P p0 p1 p2 p3 p4 p5 p6 p7 p8 p9 p10 p11 p12 p13 p14 p15 (suc (suc (suc (suc (suc (suc (suc (suc (suc (suc zero)))))))))) l = p10
sixteen P p0 p1 p2 p3 p4 p5 p6 p7 p8 p9 p10 p11 p12 p13 p14 p15 (suc (suc (suc (suc (suc (suc (suc (suc (suc (suc (suc zero))))))))))) l = p11
sixteen P p0 p1 p2 p3 p4 p5 p6 p7 p8 p9 p10 p11 p12 p13 p14 p15 (suc (suc (suc (suc (suc (suc (suc (suc (suc (suc (suc (suc zero)))))))))))) l = p12
sixteen P p0 p1 p2 p3 p4 p5 p6 p7 p8 p9 p10 p11 p12 p13 p14 p15 (suc (suc (suc (suc (suc (suc (suc (suc (suc (suc (suc (suc (suc zero))))))))))))) l = p13
sixteen P p0 p1 p2 p3 p4 p5 p6 p7 p8 p9 p10 p11 p12 p13 p14 p15 (suc (suc (suc (suc (suc (suc (suc (suc (suc (suc (suc (suc (suc (suc zero)))))))))))))) l = p14
sixteen P p0 p1 p2 p3 p4 p5 p6 p7 p8 p9 p10 p11 p12 p13 p14 p15 (suc (suc (suc (suc (suc (suc (suc (suc (suc (suc (suc (suc (suc (suc (suc zero))))))))))))))) l = p15
sixteen P p0 p1 p2 p3 p4 p5 p6 p7 p8 p9 p10 p11 p12 p13 p14 p15 (suc (suc (suc (suc (suc (suc (suc (suc (suc (suc (suc (suc (suc (suc (suc (suc n)))))))))))))))) l = absurd (omega (arith, l))

-- ---- some lane

pub is_set : (p : ℕ → Bool) (xs : List ℕ) (i : ℕ) → i < length xs → p (get_or xs i 0) ≡ true → 0 < mask_l (map p xs)
is_set p xs i l e =
    let bit : mask_l (map p xs) / 2 ^ i % 2 ≡ cond (get_or (map p xs) i false) 1 0 = bit_mask_l (map p xs) i in
    let one : get_or (map p xs) i false ≡ true = get_or-map p xs i 0 false l ∙ e in
    positive (mask_l (map p xs)) i (bit ∙ ap (λ b. cond b 1 0) one)
  where
    positive : (n i : ℕ) → bit_at n i ≡ 1 → 0 < n
    positive zero i e = let bad : ◌≡◌ {A = ℕ} 0 1 = sym (bit_at-zero i) ∙ e in absurd (omega (arith, bad))
    positive (suc n) i e = omega arith
