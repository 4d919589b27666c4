-- The reciprocal of an area.
use Rattle.std.proofs.Common.{◌≡◌, refl, sym, ap, ◌∙◌, arith, ℕ, suc, ◌+◌, ◌-◌, ◌*◌, ◌/◌, ◌%◌, ◌<◌, ◌≤◌, ◌^◌}
use Rattle.std.proofs.Math.Nat.{pow-le-pow_right, lt_of_mul-lt-mul_right, mul-le-mul_right, mul-lt-mul_of_pos_right}
use Rattle.std.proofs.lemmas.Nat.{leading_top, pow-add, pow_pos, mod_below, div-add-mod', mul-le}
use lib.Count.{count_leading_zeros}
use Rattle.gradients.specs.Reciprocal.{IsReciprocal}

-- a number shifted by its leading zeros has exactly 64 bits
pub record IsFull (a shift : ℕ) : Type 0 where
  pub below : shift < 64
  pub low : 2 ^ 63 ≤ a * 2 ^ shift
  pub high : a * 2 ^ shift < 2 ^ 64

full_from : (a z j : ℕ) → z + suc j ≡ 64 → 2 ^ j ≤ a → a < 2 ^ suc j → IsFull a z
full_from a z j e low high =
    let bottom : 2 ^ (j + z) ≡ 2 ^ j * 2 ^ z = pow-add 2 j z in
    let top : 2 ^ (suc j + z) ≡ 2 ^ suc j * 2 ^ z = pow-add 2 (suc j) z in
    let f : j + z ≡ 63 = omega arith in
    let g : suc j + z ≡ 64 = omega arith in
    let first : 2 ^ (j + z) ≡ 2 ^ 63 = ap (λ n. 2 ^ n) f in
    let second : 2 ^ (suc j + z) ≡ 2 ^ 64 = ap (λ n. 2 ^ n) g in
    let least : 2 ^ j * 2 ^ z ≤ a * 2 ^ z = mul-le-mul_right (2 ^ z) low in
    let most : a * 2 ^ z < 2 ^ suc j * 2 ^ z = mul-lt-mul_of_pos_right high (pow_pos z) in
    record { below = omega arith; low = omega (arith, sym bottom, first, least); high = omega (arith, sym top, second, most) }

pub full : (a : ℕ) → 0 < a → a < 2 ^ 64 → IsFull a (count_leading_zeros 64 a)
full a some bound =
    let top = leading_top 64 a some bound in
    full_from a (count_leading_zeros 64 a) top.0 top.1 top.2 top.3

-- the quotient of 2^127 - 1
pub record IsGreatest (d v : ℕ) : Type 0 where
  pub low : v * d < 2 ^ 127
  pub high : 2 ^ 127 ≤ (v + 1) * d

greatest : (m d v r : ℕ) → m ≡ 2 ^ 127 - 1 → v * d + r ≡ m → r < d → IsGreatest d v
greatest m d v r e sum less = record { low = omega (arith, sum, e); high = omega (arith, sum, e, less) }

quotient : (m d : ℕ) → m ≡ 2 ^ 127 - 1 → 0 < d → IsGreatest d (m / d)
quotient m d e some = greatest m d (m / d) (m % d) e (div-add-mod' m d) (mod_below m d some)

below : (d v : ℕ) → 2 ^ 63 ≤ d → v * d < 2 ^ 127 → v < 2 ^ 64
below d v low h =
    let least : v * 2 ^ 63 ≤ v * d = mul-le v (2 ^ 63) v d (omega arith) low in
    let product : v * 2 ^ 63 < 2 ^ 64 * 2 ^ 63 = omega (arith, least, h) in
    lt_of_mul-lt-mul_right (2 ^ 63) product

pub quotient_fits : (d : ℕ) → 2 ^ 63 ≤ d → (2 ^ 127 - 1) / d < 2 ^ 64
quotient_fits d low = below d _ low (quotient (2 ^ 127 - 1) d refl (omega (arith, low))).low

pub reciprocal_of : (a shift : ℕ) → 0 < a → IsFull a shift → IsReciprocal a shift ((2 ^ 127 - 1) / (a * 2 ^ shift))
reciprocal_of a shift some h =
    let d = a * 2 ^ shift in
    let q = quotient (2 ^ 127 - 1) d refl (omega (arith, h.low)) in
    record { some = some; shift_below = h.below; full = h.low; fits = h.high; low = q.low; high = q.high; value_fits = quotient_fits d h.low }

-- the shifted area as the code forms it
pub shifted : (a shift : ℕ) → IsFull a shift → a * 2 ^ shift % 2 ^ 64 ≡ a * 2 ^ shift
shifted a shift h = omega (arith, h.high)

-- a power of two that is more than six times the area by 2^k, from the area's leading zeros
pub six_below : (a shift k bits : ℕ) → 0 < a → a * 2 ^ shift < 2 ^ 64 → 64 + 3 ≤ bits + k + shift → 6 * a < 2 ^ bits * 2 ^ k
six_below a shift k bits some fits h =
    let sum : 2 ^ (bits + k + shift) ≡ 2 ^ bits * 2 ^ k * 2 ^ shift = pow-add 2 (bits + k) shift ∙ ap (λ n. n * 2 ^ shift) (pow-add 2 bits k) in
    let least : 2 ^ 67 ≤ 2 ^ (bits + k + shift) = pow-le-pow_right {n = 2} (omega arith) h in
    let more : 2 ^ 67 ≡ 8 * 2 ^ 64 = refl in
    let product : 6 * a * 2 ^ shift < 2 ^ bits * 2 ^ k * 2 ^ shift = omega (arith, sum, least, more, fits) in
    lt_of_mul-lt-mul_right (2 ^ shift) product
