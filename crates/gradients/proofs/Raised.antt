-- Candidates of a plane that is three units higher, if values are whole.
use Rattle.std.proofs.Common.{◌≡◌, inl, inr, sym, ap, ◌∙◌, arith, ℕ, ◌+◌, ◌-◌, ◌*◌, ◌/◌, ◌%◌, ◌<◌, ◌≤◌, ◌^◌, ℤ, pos, negsuc, ◌+ℤ◌, ◌-ℤ◌, ◌*ℤ◌}
use Rattle.std.proofs.lemmas.Int.{ints}
use Rattle.std.proofs.lemmas.Nat.{mod_below, div-add-mod', pow-add, pow_pos}
use Rattle.std.proofs.lemmas.Nat.Gcd.{mod-eq-zero_of_dvd}
use Rattle.std.proofs.Math.Nat.{lt_of_mul-lt-mul_right, mul-le-mul_right, mul-lt-mul_of_pos_right}
use Rattle.gradients.specs.Candidate.{IsClose, IsSure, IsCandidate}
use Rattle.gradients.specs.Whole.{IsWholeSlope}
use Rattle.gradients.specs.Modulo.{IsModulo}
use Rattle.gradients.specs.declared.plane.Plane.{Plane}
use Rattle.gradients.specs.declared.slope.Slope.{Slope}
use Rattle.gradients.specs.Plane.{IsPlane, IsHigher, IsCandidatePlane, IsHeight, IsIncrement, IsReached}
use Rattle.gradients.proofs.Certificate.{split}
use Rattle.gradients.proofs.Heights.{area_some, candidate_is}
use Rattle.gradients.proofs.Modulos.{modulo_self, modulo_sum, modulo_rest, modulo_through, wrapped_difference}

-- ---- the law, of n = j g and s = d g, for a whole part q and a fraction of r out of p units
not_over : (n s g j d q p r : ℕ) → n ≡ j * g → s ≡ d * g → 6 * s < g * p → (q * p + r) * s ≤ n * p + 6 * s → q * s ≤ n
not_over n s g j d q p r e f few high =
    let whole = split q p r s in
    let sum : (n + g) * p ≡ n * p + g * p = omega arith in
    let below : (q * s) * p < (n + g) * p = omega (arith, whole, sum, high, few) in
    let less : q * s < n + g = lt_of_mul-lt-mul_right p below in
    let product : q * s ≡ q * d * g = ap (λ m. q * m) f ∙ omega arith in
    let next : (j + 1) * g ≡ j * g + g = omega arith in
    let times : q * d * g < (j + 1) * g = omega (arith, less, product, next, e) in
    let most : q * d < j + 1 = lt_of_mul-lt-mul_right g times in
    let least : q * d * g ≤ j * g = mul-le-mul_right g (omega (arith, most)) in
    omega (arith, least, product, e)

not_under : (n s q p r : ℕ) → 0 < s → r < p → n * p + 3 * s ≤ (q * p + r) * s → n < (q + 1) * s
not_under n s q p r some less low =
    let whole = split q p r s in
    let part : r * s < p * s = mul-lt-mul_of_pos_right less some in
    let next : ((q + 1) * s) * p ≡ (q * s) * p + p * s = omega arith in
    let below : n * p < ((q + 1) * s) * p = omega (arith, whole, next, part, low) in
    lt_of_mul-lt-mul_right p below

some_units : (n s q p r : ℕ) → 0 < s → q * s ≤ n → n * p + 3 * s ≤ (q * p + r) * s → 3 ≤ r
some_units n s q p r some most low =
    let whole = split q p r s in
    let least : (q * s) * p ≤ n * p = mul-le-mul_right p most in
    let next : 3 * s < (r + 1) * s = omega (arith, whole, least, low, some) in
    let more : 3 < r + 1 = lt_of_mul-lt-mul_right s next in
    omega (arith, more)

-- three units above what is close to n / s
pub raised_sure : (k n s f g j d : ℕ) → 0 < s → n ≡ j * g → s ≡ d * g → 6 * s < g * 2 ^ k → IsClose k n s f → IsSure k n s (f + 3)
raised_sure k n s f g j d some e h few close =
    let p = 2 ^ k in
    let q = (f + 3) / p in
    let r = (f + 3) % p in
    let parts : q * p + r ≡ f + 3 = div-add-mod' (f + 3) p in
    let sum : (f + 3) * s ≡ f * s + 3 * s = omega arith in
    let low : n * p + 3 * s ≤ (q * p + r) * s = rw parts (omega (arith, sum, close.low)) in
    let high : (q * p + r) * s ≤ n * p + 6 * s = rw parts (omega (arith, sum, close.high)) in
    let not_more = not_over n s g j d q p r e h few high in
    record {
      whole = record { low = not_more; high = not_under n s q p r some (mod_below (f + 3) p (pow_pos k)) low };
      fraction = some_units n s q p r some not_more low;
    }

-- ---- it does not wrap
not_wrapped : (k n area f : ℕ) → IsClose k n area f → n * 2 ^ (32 + k) + 2 ^ 48 * area ≤ 2 ^ 64 * area → 0 < area → f + 3 < 2 ^ 32
not_wrapped k n area f close most some =
    let power : n * 2 ^ (32 + k) ≡ n * (2 ^ 32 * 2 ^ k) = ap (λ m. n * m) (pow-add 2 32 k) in
    let high = close.high in
    let below : (f + 3) * area < 2 ^ 32 * area = omega (arith, power, most, high, some) in
    lt_of_mul-lt-mul_right area below

-- ---- the plane under it
lower_height : (p q : Plane) (x y : ℤ) (m : ℕ) → IsHigher p q → IsHeight q x y m → IsHeight p x y ((m + (2 ^ 64 - 3 * 2 ^ 32)) % 2 ^ 64)
lower_height p q x y m higher height =
    let part = x *ℤ p.across +ℤ y *ℤ p.down in
    let from : IsModulo (pos q.start +ℤ part) m = rw (higher.across, higher.down) at height in
    let start : IsModulo (pos p.start +ℤ pos (3 * 2 ^ 32)) q.start = rw higher.start (modulo_rest _ _ (modulo_sum (pos p.start) (pos (3 * 2 ^ 32)) _ _ (modulo_self p.start) (modulo_self (3 * 2 ^ 32)))) in
    let whole = modulo_through _ part q.start m start from in
    let less = wrapped_difference _ (pos (3 * 2 ^ 32)) m (3 * 2 ^ 32) (omega arith) whole (modulo_self (3 * 2 ^ 32)) in
    let same : pos p.start +ℤ pos (3 * 2 ^ 32) +ℤ part -ℤ pos (3 * 2 ^ 32) ≡ pos p.start +ℤ part = omega (arith, ints) in
    rw same at less

three_more : (m w : ℕ) → m < 2 ^ 64 → ((m + (2 ^ 64 - 3 * 2 ^ 32)) % 2 ^ 64 / 2 ^ 32 + w / 2 ^ 32) % 2 ^ 32 + 3 < 2 ^ 32
    → (m / 2 ^ 32 + w / 2 ^ 32) % 2 ^ 32 ≡ ((m + (2 ^ 64 - 3 * 2 ^ 32)) % 2 ^ 64 / 2 ^ 32 + w / 2 ^ 32) % 2 ^ 32 + 3
three_more m w fits less = omega (arith, fits, less)

-- ---- a numerator and an area as multiples of a unit
times_of : (n g : ℕ) (t : ℤ) → 0 < g → pos n ≡ t *ℤ pos g → (j : ℕ) × (n ≡ j * g)
times_of n g (pos j) some e = (j, omega (arith, ints, e))
times_of n g (negsuc j) some e = absurd (omega (arith, ints, e, some))

raised_is : (k n area : ℕ) (s : Slope) (p q : Plane) (x y r b : ℤ) (m w : ℕ) → m < 2 ^ 64 → w < 2 ^ 64 → 0 < area → IsPlane (32 + k) area s p → IsHigher p q → IsWholeSlope k area s
    → IsHeight q x y m → IsIncrement q r b w → IsReached k area s (x +ℤ r) (y +ℤ b) n → IsSure k n area ((m / 2 ^ 32 + w / 2 ^ 32) % 2 ^ 32)
raised_is k n area s p q x y r b m w m_fits w_fits some plane higher whole height part reached =
    let lower = lower_height p q x y m higher height in
    let increment : IsIncrement p r b w = rw (higher.across, higher.down) at part in
    let less : (m + (2 ^ 64 - 3 * 2 ^ 32)) % 2 ^ 64 < 2 ^ 64 = omega arith in
    let close = candidate_is k n area s p x y r b _ w less w_fits plane lower increment reached in
    let fits = not_wrapped k n area _ close reached.most some in
    let g = whole.unit in
    let some_unit : 0 < g = lt_of_mul-lt-mul_right (2 ^ k) (omega (arith, whole.few)) in
    let value = whole.of_numerator (x +ℤ r) (y +ℤ b) reached.sixteenth_x reached.sixteenth_y in
    let of_n = times_of n g value.times some_unit (sym reached.value ∙ value.is) in
    let none : area % g ≡ 0 = mod-eq-zero_of_dvd g whole.of_area in
    let of_area : area ≡ area / g * g = omega (arith, none, div-add-mod' area g) in
    rw (three_more m w m_fits fits) (raised_sure k n area _ g of_n.0 (area / g) some of_n.1 of_area whole.few close)

pub candidate_for : (k n area : ℕ) (s : Slope) (p : Plane) (x y r b : ℤ) (m w : ℕ) → m < 2 ^ 64 → w < 2 ^ 64 → IsCandidatePlane k area s p → IsHeight p x y m → IsIncrement p r b w
    → IsReached k area s (x +ℤ r) (y +ℤ b) n → IsCandidate k n area ((m / 2 ^ 32 + w / 2 ^ 32) % 2 ^ 32)
candidate_for k n area s p x y r b m w m_fits w_fits plane height part reached =
    elim plane [
      | inl is ↦ inl (candidate_is k n area s p x y r b m w m_fits w_fits is height part reached)
      | inr is ↦ inr (raised_is k n area s is.lower p x y r b m w m_fits w_fits (area_some (32 + k) area s.across is.lower.across is.is_plane.across) is.is_plane is.higher is.whole height part reached)
    ]
