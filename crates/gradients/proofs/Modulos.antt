-- Sums and products modulo 2^64.
use Rattle.std.proofs.Common.{◌≡◌, refl, sym, ap, ◌∙◌, [], ◌∷◌, arith, ℕ, ◌+◌, ◌-◌, ◌*◌, ◌/◌, ◌%◌, ◌<◌, ◌^◌, FitsSigned, w32, w64, to_z, of_z, ℤ, pos, negsuc, neg_ℤ, ◌+ℤ◌, ◌-ℤ◌, ◌*ℤ◌}
use Rattle.std.proofs.lemmas.Nat.{div-add-mod'}
use Rattle.std.proofs.lemmas.Int.{ints, to_z-of_z}
use Rattle.grid.proofs.Ring.{var, lit, plus, neg, times, ring}
use Rattle.gradients.specs.Modulo.{IsModulo}

-- a number of bits, and what is left of one
pub modulo_self : (n : ℕ) → IsModulo (pos n) n
modulo_self n = record { turns = pos 0; sum = omega (arith, ints) }

whole_turns : (a b q m : ℤ) → a ≡ q *ℤ m +ℤ b → b ≡ a +ℤ neg_ℤ q *ℤ m
whole_turns a b q m e =
    sym (ring (q ∷ m ∷ b ∷ []) (plus (plus (times (var 0) (var 1)) (var 2)) (times (neg (var 0)) (var 1))) (var 2) refl) ∙ sym (ap (λ z. z +ℤ neg_ℤ q *ℤ m) e)

more_turns : (z x s t m : ℤ) (n : ℕ) → x ≡ z +ℤ s *ℤ m → pos n ≡ x +ℤ t *ℤ m → pos n ≡ z +ℤ (s +ℤ t) *ℤ m
more_turns z x s t m n e f =
    f ∙ ap (λ y. y +ℤ t *ℤ m) e ∙ ring (z ∷ s ∷ t ∷ m ∷ []) (plus (plus (var 0) (times (var 1) (var 3))) (times (var 2) (var 3))) (plus (var 0) (times (plus (var 1) (var 2)) (var 3))) refl

pub modulo_rest : (z : ℤ) (n : ℕ) → IsModulo z n → IsModulo z (n % 2 ^ 64)
modulo_rest z n h =
    let parts : pos n ≡ pos (n / 2 ^ 64) *ℤ pos (2 ^ 64) +ℤ pos (n % 2 ^ 64) = ap pos (sym (div-add-mod' n (2 ^ 64))) in
    let rest = whole_turns (pos n) (pos (n % 2 ^ 64)) (pos (n / 2 ^ 64)) (pos (2 ^ 64)) parts in
    record { turns = h.turns +ℤ neg_ℤ (pos (n / 2 ^ 64)); sum = more_turns z (pos n) h.turns (neg_ℤ (pos (n / 2 ^ 64))) (pos (2 ^ 64)) (n % 2 ^ 64) h.sum rest }

-- the bits of a signed number
pub modulo_bits : (z : ℤ) → FitsSigned w64 z → IsModulo z (of_z w64 z)
modulo_bits (pos n) h = modulo_self n
modulo_bits (negsuc n) h = record { turns = pos 1; sum = omega (arith, ints, h.sfits) }

-- sums
pub modulo_sum : (x y : ℤ) (m n : ℕ) → IsModulo x m → IsModulo y n → IsModulo (x +ℤ y) (m + n)
modulo_sum x y m n h k =
    record { turns = h.turns +ℤ k.turns; sum = ap (λ z. z +ℤ pos n) h.sum ∙ ap (λ z. x +ℤ h.turns *ℤ pos (2 ^ 64) +ℤ z) k.sum ∙ sums x y h.turns k.turns (pos (2 ^ 64)) }
  where
    sums : (x y s t m : ℤ) → x +ℤ s *ℤ m +ℤ (y +ℤ t *ℤ m) ≡ x +ℤ y +ℤ (s +ℤ t) *ℤ m
    sums x y s t m = ring (x ∷ y ∷ s ∷ t ∷ m ∷ []) (plus (plus (var 0) (times (var 2) (var 4))) (plus (var 1) (times (var 3) (var 4)))) (plus (plus (var 0) (var 1)) (times (plus (var 2) (var 3)) (var 4))) refl

-- differences
pub modulo_opposite : (y : ℤ) (n : ℕ) → n < 2 ^ 64 → IsModulo y n → IsModulo (neg_ℤ y) (2 ^ 64 - n)
modulo_opposite y n less k =
    let size : pos (2 ^ 64 - n) ≡ pos (2 ^ 64) +ℤ neg_ℤ (pos n) = omega (arith, ints, less) in
    record { turns = pos 1 +ℤ neg_ℤ k.turns; sum = size ∙ ap (λ z. pos (2 ^ 64) +ℤ neg_ℤ z) k.sum ∙ turned y k.turns (pos (2 ^ 64)) }
  where
    turned : (y t m : ℤ) → m +ℤ neg_ℤ (y +ℤ t *ℤ m) ≡ neg_ℤ y +ℤ (pos 1 +ℤ neg_ℤ t) *ℤ m
    turned y t m = ring (y ∷ t ∷ m ∷ []) (plus (var 2) (neg (plus (var 0) (times (var 1) (var 2))))) (plus (neg (var 0)) (times (plus (lit (pos 1)) (neg (var 1))) (var 2))) refl

-- products
pub modulo_product : (x y : ℤ) (m n : ℕ) → IsModulo x m → IsModulo y n → IsModulo (x *ℤ y) (m * n)
modulo_product x y m n h k =
    let a = pos (2 ^ 64) in
    record {
      turns = x *ℤ k.turns +ℤ h.turns *ℤ y +ℤ h.turns *ℤ k.turns *ℤ a;
      sum = ap (λ z. z *ℤ pos n) h.sum ∙ ap (λ z. (x +ℤ h.turns *ℤ pos (2 ^ 64)) *ℤ z) k.sum ∙ products x y h.turns k.turns (pos (2 ^ 64));
    }
  where
    products : (x y s t m : ℤ) → (x +ℤ s *ℤ m) *ℤ (y +ℤ t *ℤ m) ≡ x *ℤ y +ℤ (x *ℤ t +ℤ s *ℤ y +ℤ s *ℤ t *ℤ m) *ℤ m
    products x y s t m =
        ring (x ∷ y ∷ s ∷ t ∷ m ∷ [])
        (times (plus (var 0) (times (var 2) (var 4))) (plus (var 1) (times (var 3) (var 4))))
        (plus (times (var 0) (var 1)) (times (plus (plus (times (var 0) (var 3)) (times (var 2) (var 1))) (times (times (var 2) (var 3)) (var 4))) (var 4)))
        refl

-- a sum of which one part is known modulo 2^64
pub modulo_through : (z w : ℤ) (m n : ℕ) → IsModulo z m → IsModulo (pos m +ℤ w) n → IsModulo (z +ℤ w) n
modulo_through z w m n h k =
    record { turns = h.turns +ℤ k.turns; sum = k.sum ∙ ap (λ y. y +ℤ w +ℤ k.turns *ℤ pos (2 ^ 64)) h.sum ∙ sums z w h.turns k.turns (pos (2 ^ 64)) }
  where
    sums : (z w s t m : ℤ) → z +ℤ s *ℤ m +ℤ w +ℤ t *ℤ m ≡ z +ℤ w +ℤ (s +ℤ t) *ℤ m
    sums z w s t m = ring (z ∷ w ∷ s ∷ t ∷ m ∷ []) (plus (plus (plus (var 0) (times (var 2) (var 4))) (var 1)) (times (var 3) (var 4))) (plus (plus (var 0) (var 1)) (times (plus (var 2) (var 3)) (var 4))) refl

-- ---- as the code forms them
-- a coordinate times a gradient
pub scaled_is : (distance distance' g : ℤ) (m n : ℕ) → FitsSigned w32 distance → FitsSigned w64 g → distance' ≡ to_z w32 (of_z w32 distance) → m ≡ of_z w64 (to_z w64 (of_z w64 distance')) → n ≡ of_z w64 (to_z w64 (of_z w64 g))
    → IsModulo (distance *ℤ g) (m * n % 2 ^ 64)
scaled_is distance distance' g m n fits fits' e f k =
    let wide : FitsSigned w64 distance = omega (arith, ints, fits.sfits) in
    let same : distance' ≡ distance = e ∙ to_z-of_z w32 distance fits in
    let first : m ≡ of_z w64 distance = f ∙ ap (λ z. of_z w64 (to_z w64 (of_z w64 z))) same ∙ ap (of_z w64) (to_z-of_z w64 distance wide) in
    let second : n ≡ of_z w64 g = k ∙ ap (of_z w64) (to_z-of_z w64 g fits') in
    rw (first, second) (modulo_rest (distance *ℤ g) _ (modulo_product distance g _ _ (modulo_bits distance wide) (modulo_bits g fits')))

-- a wrapping sum and a wrapping difference
pub wrapped_sum : (x y : ℤ) (m n : ℕ) → IsModulo x m → IsModulo y n → IsModulo (x +ℤ y) ((m + n) % 2 ^ 64)
wrapped_sum x y m n h k = modulo_rest (x +ℤ y) (m + n) (modulo_sum x y m n h k)

pub wrapped_difference : (x y : ℤ) (m n : ℕ) → n < 2 ^ 64 → IsModulo x m → IsModulo y n → IsModulo (x -ℤ y) ((m + (2 ^ 64 - n)) % 2 ^ 64)
wrapped_difference x y m n less h k = modulo_rest (x -ℤ y) _ (modulo_sum x (neg_ℤ y) m _ h (modulo_opposite y n less k))
