-- Orders of products, and a number times the reciprocal: the number by the area, but for less than two units.
use Rattle.std.proofs.Common.{◌≡◌, subst, inl, inr, sym, ap, ◌∙◌, arith, ℕ, ◌+◌, ◌-◌, ◌*◌, ◌/◌, ◌<◌, ◌≤◌, ◌^◌, ℤ, pos, negsuc, neg_ℤ, ◌*ℤ◌, ◌<ℤ◌}
use Rattle.std.proofs.Math.Nat.{lt_of_mul-lt-mul_right, le_of_mul-le-mul_right, mul-le-mul_right, mul-lt-mul_of_pos_right, pow-le-pow_right}
use Rattle.std.proofs.lemmas.Nat.{div-add-mod', mod_below, pow-add, pow_pos, mul-le}
use Rattle.std.proofs.lemmas.Bool.{cases_lt}
use Rattle.std.proofs.lemmas.Int.{ints}
use Rattle.gradients.specs.Reciprocal.{IsReciprocal, IsQuotientBelow}
use Rattle.grid.proofs.Ring.{neg_mul, times}

-- an order of products by one number is an order of the factors
pub under_product : (x : ℤ) (m k : ℕ) → (x *ℤ pos k) <ℤ pos (m * k) → x <ℤ pos m
under_product (pos a) m k h =
    let product : a * k < m * k = omega (arith, ints, h) in
    let less : a < m = lt_of_mul-lt-mul_right k product in
    omega (arith, ints)
under_product (negsuc a) m k h = omega (arith, ints)

pub over_product : (x : ℤ) (m k : ℕ) → neg_ℤ (pos (m * k)) <ℤ (x *ℤ pos k) → neg_ℤ (pos m) <ℤ x
over_product x m k h =
    let turned = neg_mul x (pos k) in
    let less = under_product (neg_ℤ x) m k (omega (arith, ints, turned, h)) in
    omega (arith, ints, less)

-- ---- the powers of two: f is that of the fractional bits, l that of the area's shift, k that of the number's, and h of what is level
pub record ArePowers (f l k h : ℕ) : Type 0 where
  pub shifted : k * 2 ^ 63 ≡ l * f
  pub level : h * f ≡ 2 ^ 63
  pub some : 0 < l

pub powers : (bits shift : ℕ) → bits ≤ 56 → 63 ≤ shift + bits → ArePowers (2 ^ bits) (2 ^ shift) (2 ^ (shift + bits - 63)) (2 ^ (63 - bits))
powers bits shift few enough =
    let whole : shift + bits - 63 + 63 ≡ shift + bits = omega (arith, enough) in
    let level : 63 - bits + bits ≡ 63 = omega (arith, few) in
    record {
      shifted = sym (pow-add 2 (shift + bits - 63) 63) ∙ ap (λ n. 2 ^ n) whole ∙ pow-add 2 shift bits;
      level = sym (pow-add 2 (63 - bits) bits) ∙ ap (λ n. 2 ^ n) level;
      some = pow_pos shift;
    }

-- an area of at most 48 bits is shifted far enough
pub shifted_enough : (s shift r bits : ℕ) → IsReciprocal s shift r → s ≤ 2 ^ 48 → 48 ≤ bits → 63 ≤ shift + bits
shifted_enough s shift r bits h small low =
    elim (cases_lt shift 15) [
      | inl less ↦
          let few : shift ≤ 14 = omega (arith, less) in
          let power : 2 ^ shift ≤ 2 ^ 14 = pow-le-pow_right {n = 2} (omega arith) few in
          let most : s * 2 ^ shift ≤ 2 ^ 48 * 2 ^ 14 = mul-le s (2 ^ shift) (2 ^ 48) (2 ^ 14) small power in
          absurd (omega (arith, most, h.full))
      | inr more ↦ omega (arith, more, low)
    ]

-- ---- the quotient
-- a number that is not steep is shifted without a loss
shifted_fits : (m s f l k h : ℕ) → ArePowers f l k h → 0 < l * f → m < s * h → m * k < s * l
shifted_fits m s f l k h p some less =
    let wide : m * (l * f) < s * h * (l * f) = mul-lt-mul_of_pos_right less some in
    let shifted = ap (λ z. m * z) p.shifted in
    let level = ap (λ z. s * l * z) p.level in
    lt_of_mul-lt-mul_right (2 ^ 63) (omega (arith, wide, shifted, level))

module _ (m s f l k h r q : ℕ) (p : ArePowers f l k h) (full : 2 ^ 63 ≤ s * l) where
  -- the upper half of the product with the reciprocal is not above the number by the area
  below : r * (s * l) < 2 ^ 127 → q * 2 ^ 64 ≤ m * k * r → q * s ≤ m * f
  below low half =
      let first : r * (s * l) * (m * k) ≤ 2 ^ 127 * (m * k) = mul-le-mul_right (m * k) (omega (arith, low)) in
      let second : q * 2 ^ 64 * (s * l) ≤ m * k * r * (s * l) = mul-le-mul_right (s * l) half in
      let shifted = ap (λ z. m * z) p.shifted in
      le_of_mul-le-mul_right {k = l * 2 ^ 64} (omega (arith, first, second, shifted)) (omega (arith, p.some))

  -- and less than two below it
  near : 2 ^ 127 ≤ (r + 1) * (s * l) → m * k < 2 ^ 64 → m * k * r < (q + 1) * 2 ^ 64 → m * f < (q + 2) * s
  near high fits half =
      let first : 2 ^ 127 * (m * k) ≤ (r + 1) * (s * l) * (m * k) = mul-le-mul_right (m * k) high in
      let sum : m * k * r + m * k < (q + 2) * 2 ^ 64 = omega (arith, half, fits) in
      let second : (m * k * r + m * k) * (s * l) < (q + 2) * 2 ^ 64 * (s * l) = mul-lt-mul_of_pos_right sum (omega (arith, full)) in
      let shifted = ap (λ z. m * z) p.shifted in
      lt_of_mul-lt-mul_right (l * 2 ^ 64) (omega (arith, first, second, shifted))

pub record IsUpperHalf (m s bits shift r : ℕ) : Type 0 where
  pub fits : m * 2 ^ (shift + bits - 63) < 2 ^ 64
  pub product : m * 2 ^ (shift + bits - 63) * r < 2 ^ 128
  pub below : IsQuotientBelow bits s m (m * 2 ^ (shift + bits - 63) * r / 2 ^ 64)

pub upper_half : (m s bits shift r : ℕ) → IsReciprocal s shift r → s ≤ 2 ^ 48 → 48 ≤ bits → bits ≤ 56 → m < s * 2 ^ (63 - bits) → IsUpperHalf m s bits shift r
upper_half m s bits shift r h small low high level =
    let p = powers bits shift high (shifted_enough s shift r bits h small low) in
    let f = 2 ^ bits in
    let l = 2 ^ shift in
    let k = 2 ^ (shift + bits - 63) in
    let half = m * k * r / 2 ^ 64 in
    let some : 0 < l * f = subst (λ z. 0 < z) (pow-add 2 shift bits) (pow_pos (shift + bits)) in
    let inside = shifted_fits m s f l k (2 ^ (63 - bits)) p some level in
    let fits : m * k < 2 ^ 64 = omega (arith, inside, h.fits) in
    let parts = div-add-mod' (m * k * r) (2 ^ 64) in
    let rest = mod_below (m * k * r) (2 ^ 64) (omega arith) in
    record {
      fits = fits;
      product = omega (arith, mul-le (m * k) r (2 ^ 64) (2 ^ 64 - 1) (omega (arith, fits)) (omega (arith, h.value_fits)));
      below = record {
        low = below m s f l k (2 ^ (63 - bits)) r half p h.full h.low (omega (arith, parts));
        high = near m s f l k (2 ^ (63 - bits)) r half p h.full h.high fits (omega (arith, parts, rest));
      };
    }
