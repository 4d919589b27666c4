-- A candidate's integer part is the quotient or the number after it, and the quotient if its fraction is at least three units.
use Rattle.std.proofs.Common.{◌≡◌, inl, inr, arith, ℕ, ◌+◌, ◌*◌, ◌/◌, ◌%◌, ◌<◌, ◌≤◌, ◌^◌, zero, suc, ap}
use Rattle.std.proofs.Math.Nat.{pow-le-pow_right, lt_of_mul-lt-mul_right, mul-le-mul_right, mul-lt-mul_of_pos_right}
use Rattle.std.proofs.lemmas.Nat.{mod_below, div-add-mod'}
use Rattle.shade.specs.Quotient.{IsQuotient}
use Rattle.gradients.specs.Candidate.{IsClose, IsCandidate, IsNear}

-- over an integer part m and a fraction of r out of p units
pub split : (m p r s : ℕ) → (m * p + r) * s ≡ (m * s) * p + r * s
split m p r s = omega arith

above : (n s m p r : ℕ) → 0 < s → r < p → n * p ≤ (m * p + r) * s → n < (m + 1) * s
above n s m p r some less low =
    let whole = split m p r s in
    let part : r * s < p * s = mul-lt-mul_of_pos_right less some in
    let next : ((m + 1) * s) * p ≡ (m * s) * p + p * s = omega arith in
    let below : n * p < ((m + 1) * s) * p = omega (arith, whole, next, part, low) in
    lt_of_mul-lt-mul_right p below

under : (n s m p r : ℕ) → 0 < s → 4 ≤ p → (m * p + r) * s ≤ n * p + 3 * s → m * s < n + s
under n s m p r some units high =
    let whole = split m p r s in
    let part : 4 * s ≤ p * s = mul-le-mul_right s units in
    let sum : (n + s) * p ≡ n * p + p * s = omega arith in
    let below : (m * s) * p < (n + s) * p = omega (arith, whole, sum, part, high, some) in
    lt_of_mul-lt-mul_right p below

sure : (n s m p r : ℕ) → 0 < p → 3 ≤ r → (m * p + r) * s ≤ n * p + 3 * s → m * s ≤ n
sure n s m p r positive three high =
    let whole = split m p r s in
    let part : 3 * s ≤ r * s = mul-le-mul_right s three in
    let below : (m * s) * p < (n + 1) * p = omega (arith, whole, part, high, positive) in
    let less : m * s < n + 1 = lt_of_mul-lt-mul_right p below in
    omega (arith, less)

-- of a candidate
pub units : (k : ℕ) → 2 ≤ k → 4 ≤ 2 ^ k
units k h = let least : 2 ^ 2 ≤ 2 ^ k = pow-le-pow_right {n = 2} (omega arith) h in omega (arith, least)

close_near : (k n s f : ℕ) → 4 ≤ 2 ^ k → 0 < s → IsClose k n s f → IsNear n s (f / 2 ^ k)
close_near k n s f units some h =
    let p = 2 ^ k in
    let parts : f / p * p + f % p ≡ f = div-add-mod' f p in
    let low : n * p ≤ (f / p * p + f % p) * s = rw parts h.low in
    let high : (f / p * p + f % p) * s ≤ n * p + 3 * s = rw parts h.high in
    (above n s (f / p) p (f % p) some (mod_below f p (omega (arith, units))) low, under n s (f / p) p (f % p) some units high)

close_sure : (k n s f : ℕ) → 4 ≤ 2 ^ k → 0 < s → 3 ≤ f % 2 ^ k → IsClose k n s f → IsQuotient n s (f / 2 ^ k)
close_sure k n s f units some three h =
    let p = 2 ^ k in
    let parts : f / p * p + f % p ≡ f = div-add-mod' f p in
    let high : (f / p * p + f % p) * s ≤ n * p + 3 * s = rw parts h.high in
    record { low = sure n s (f / p) p (f % p) (omega (arith, units)) three high; high = (close_near k n s f units some h).0 }

quotient_near : (n s q : ℕ) → 0 < s → IsQuotient n s q → IsNear n s q
quotient_near n s q some h = (h.high, omega (arith, some, h.low))

pub candidate_near : (k n s f : ℕ) → 4 ≤ 2 ^ k → 0 < s → IsCandidate k n s f → IsNear n s (f / 2 ^ k)
candidate_near k n s f units some h = elim h [ inl close ↦ close_near k n s f units some close | inr is ↦ quotient_near n s (f / 2 ^ k) some is.whole ]

pub candidate_sure : (k n s f : ℕ) → 4 ≤ 2 ^ k → 0 < s → 3 ≤ f % 2 ^ k → IsCandidate k n s f → IsQuotient n s (f / 2 ^ k)
candidate_sure k n s f units some three h = elim h [ inl close ↦ close_sure k n s f units some three close | inr is ↦ is.whole ]

-- a number near the quotient is it if it is not too high, and otherwise the number after it
pub near_low : (n s m : ℕ) → IsNear n s m → m * s ≤ n → IsQuotient n s m
near_low n s m near low = record { low = low; high = near.0 }

pub near_high : (n s m p : ℕ) → m ≡ p + 1 → IsNear n s m → n < m * s → IsQuotient n s p
near_high n s m p e near high =
    let some : m * s ≡ (p + 1) * s = ap (λ x. x * s) e in
    record { low = omega (arith, near.1, some); high = omega (arith, high, some) }

pub near_positive : (n s m : ℕ) → n < m * s → 0 < m
near_positive n s zero high = absurd (omega (arith, high))
near_positive n s (suc m) high = omega arith
