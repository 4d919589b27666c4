-- What a quotient leaves of a number, and the gradient of a number by the quotient of its absolute value.
use Rattle.std.proofs.Common.{◌≡◌, sym, ap, ◌∙◌, arith, ℕ, ◌+◌, ◌-◌, ◌*◌, ◌%◌, ◌<◌, ◌≤◌, ◌^◌}
use Rattle.std.proofs.lemmas.Nat.{pow-add, pow_pos}
use Rattle.std.proofs.Math.Nat.{lt_of_mul-lt-mul_right, mul-lt-mul_of_pos_right}
use Rattle.gradients.specs.Reciprocal.{IsQuotientBelow}

-- the rest is less than two areas, so it is right modulo 2^64
pub rest_is : (bits area number quotient : ℕ) → area ≤ 2 ^ 48 → IsQuotientBelow bits area number quotient
    → (number * 2 ^ bits % 2 ^ 64 + (2 ^ 64 - quotient * area % 2 ^ 64)) % 2 ^ 64 + quotient * area ≡ number * 2 ^ bits
rest_is bits area number quotient small h =
    let low = h.low in
    let high = h.high in
    omega (arith, small, low, high)

-- a quotient without an error fits 63 bits
pub quotient_fits : (bits area number quotient : ℕ) → bits ≤ 56 → number < area * 2 ^ (63 - bits) → quotient * area ≤ number * 2 ^ bits → quotient < 2 ^ 63
quotient_fits bits area number quotient few level low =
    let bits_all : 63 - bits + bits ≡ 63 = omega (arith, few) in
    let power : 2 ^ (63 - bits) * 2 ^ bits ≡ 2 ^ 63 = sym (pow-add 2 (63 - bits) bits) ∙ ap (λ k. 2 ^ k) bits_all in
    let powers = ap (λ k. area * k) power in
    let scaled : number * 2 ^ bits < area * 2 ^ (63 - bits) * 2 ^ bits = mul-lt-mul_of_pos_right level (pow_pos bits) in
    lt_of_mul-lt-mul_right area (omega (arith, low, scaled, powers))
