-- Arithmetic of sixteen lanes, operation by operation.
use Rattle.std.proofs.Common.{◌≡◌, ℕ, ◌+◌, ◌-◌, ◌*◌, ◌/◌, ◌%◌, ◌^◌, ◌<◌, ◌≤◌, ◌∙◌, List, cond, ltb, length, get_or, replicate, min, max, arith, w16, Fits}
use Rattle.std.proofs.Math.Nat.{mul-le-mul_right}
use Rattle.std.proofs.lemmas.Bool.Decides.{nat_tests}
use Rattle.std.proofs.lemmas.Simd.{Each1-get_or}
use Rattle.std.specs.Simd.Lanes.{zip2, sel_l, Each1}
use Rattle.gradients.specs.Lanes.{HasLanes}
use Rattle.gradients.proofs.Lanes.{itself, zipped, splat, chosen}

-- lanes by another form of the same function
pub becomes : (v : List ℕ) (f g : ℕ → ℕ) → HasLanes v f → ((k : ℕ) → k < 16 → f k ≡ g k) → HasLanes v g
becomes v f g h e = record { long = h.long; each = λ k l. h.each k l ∙ e k l }

-- a lane is below 65536
pub below : (v : List ℕ) → length v ≡ 16 → Each1 (Fits w16) v → (k : ℕ) → k < 16 → get_or v k 0 < 65536
below v long fits k l = (Each1-get_or (Fits w16) v k 0 (omega (arith, long)) fits).fits

abbrev pub plus : ℕ → ℕ → ℕ
plus x y = (x + y) % 65536

abbrev pub minus : ℕ → ℕ → ℕ
minus x y = (x + (65536 - y)) % 65536

abbrev pub times : ℕ → ℕ → ℕ
times x y = x * y % 65536

abbrev pub shifted : ℕ → ℕ → ℕ
shifted x k = x / 2 ^ k

-- ---- the lesser and the greater
lesser : (x y : ℕ) → cond (ltb x y) x y ≡ min x y
lesser x y = grind (arith, nat_tests)

greater : (x y : ℕ) → cond (ltb x y) y x ≡ max x y
greater x y = grind (arith, nat_tests)

pub least : (a b : List ℕ) → length a ≡ 16 → length b ≡ 16 → HasLanes (sel_l (zip2 ltb a b) a b) (λ k. min (get_or a k 0) (get_or b k 0))
least a b p q = becomes _ _ _ (chosen ltb a b a b p q p q) (λ k l. lesser (get_or a k 0) (get_or b k 0))

pub greatest : (a b : List ℕ) → length a ≡ 16 → length b ≡ 16 → HasLanes (sel_l (zip2 ltb a b) b a) (λ k. max (get_or a k 0) (get_or b k 0))
greatest a b p q = becomes _ _ _ (chosen ltb a b b a p q q p) (λ k l. greater (get_or a k 0) (get_or b k 0))

-- ---- sums and differences
pub saturated_sum : (a b m : List ℕ) → length a ≡ 16 → length b ≡ 16 → ((k : ℕ) → k < 16 → get_or a k 0 < 65536) → ((k : ℕ) → k < 16 → get_or b k 0 < 65536)
    → HasLanes m (λ k. min (get_or (zip2 minus (replicate 16 65535) a) k 0) (get_or b k 0)) → HasLanes (zip2 plus a m) (λ k. min 65535 (get_or a k 0 + get_or b k 0))
saturated_sum a b m p q i j least =
    let rest = zipped minus (replicate 16 65535) a _ _ (splat 65535) (itself a p) in
    becomes _ _ _ (zipped plus a m _ _ (itself a p) least) (λ k l. by_numbers (get_or a k 0) (get_or b k 0) _ (i k l) (j k l) (rest.each k l))
  where
    by_numbers : (x y r : ℕ) → x < 65536 → y < 65536 → r ≡ (65535 + (65536 - x)) % 65536 → (x + min r y) % 65536 ≡ min 65535 (x + y)
    by_numbers x y r i j e = omega (arith, e)

pub saturated_difference : (a b m : List ℕ) → length a ≡ 16 → ((k : ℕ) → k < 16 → get_or a k 0 < 65536)
    → HasLanes m (λ k. min (get_or a k 0) (get_or b k 0)) → HasLanes (zip2 minus a m) (λ k. get_or a k 0 - get_or b k 0)
saturated_difference a b m p i least =
    becomes _ _ _ (zipped minus a m _ _ (itself a p) least) (λ k l. by_numbers (get_or a k 0) (get_or b k 0) (i k l))
  where
    by_numbers : (x y : ℕ) → x < 65536 → (x + (65536 - min x y)) % 65536 ≡ x - y
    by_numbers x y i = omega arith

-- ---- bytes
pub product : (a b : List ℕ) → length a ≡ 16 → length b ≡ 16 → ((k : ℕ) → k < 16 → get_or a k 0 ≤ 255) → ((k : ℕ) → k < 16 → get_or b k 0 ≤ 255)
    → HasLanes (zip2 times a b) (λ k. get_or a k 0 * get_or b k 0)
product a b p q i j = becomes _ _ _ (zipped times a b _ _ (itself a p) (itself b q)) (λ k l. by_numbers (get_or a k 0) (get_or b k 0) (i k l) (j k l))
  where
    by_numbers : (x y : ℕ) → x ≤ 255 → y ≤ 255 → x * y % 65536 ≡ x * y
    by_numbers x y i j = let most : x * y ≤ 255 * y = mul-le-mul_right y i in omega (arith, most)

pub inverse : (a : List ℕ) → length a ≡ 16 → ((k : ℕ) → k < 16 → get_or a k 0 ≤ 255) → HasLanes (zip2 minus (replicate 16 255) a) (λ k. 255 - get_or a k 0)
inverse a p i = becomes _ _ _ (zipped minus (replicate 16 255) a _ _ (splat 255) (itself a p)) (λ k l. by_numbers (get_or a k 0) (i k l))
  where
    by_numbers : (x : ℕ) → x ≤ 255 → (255 + (65536 - x)) % 65536 ≡ 255 - x
    by_numbers x i = omega arith

pub by_255 : (a : List ℕ) → length a ≡ 16 → HasLanes (zip2 (λ x y. x / y) a (replicate 16 255)) (λ k. get_or a k 0 / 255)
by_255 a p = zipped (λ x y. x / y) a (replicate 16 255) _ _ (itself a p) (splat 255)

pub with_half : (a : List ℕ) → length a ≡ 16 → ((k : ℕ) → k < 16 → get_or a k 0 ≤ 65025) → HasLanes (zip2 plus a (replicate 16 127)) (λ k. get_or a k 0 + 127)
with_half a p i = becomes _ _ _ (zipped plus a (replicate 16 127) _ _ (itself a p) (splat 127)) (λ k l. by_numbers (get_or a k 0) (i k l))
  where
    by_numbers : (x : ℕ) → x ≤ 65025 → (x + 127) % 65536 ≡ x + 127
    by_numbers x i = omega arith

pub small_sum : (a b : List ℕ) → length a ≡ 16 → length b ≡ 16 → ((k : ℕ) → k < 16 → get_or a k 0 + get_or b k 0 ≤ 65025) → HasLanes (zip2 plus a b) (λ k. get_or a k 0 + get_or b k 0)
small_sum a b p q i = becomes _ _ _ (zipped plus a b _ _ (itself a p) (itself b q)) (λ k l. by_numbers (get_or a k 0) (get_or b k 0) (i k l))
  where
    by_numbers : (x y : ℕ) → x + y ≤ 65025 → (x + y) % 65536 ≡ x + y
    by_numbers x y i = omega arith
