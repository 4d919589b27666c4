-- Candidates in lanes.
use Rattle.std.proofs.Common.{◌≡◌, ◌⊎◌, inl, inr, ap, ◌∙◌, arith, ℕ, ◌*◌, ◌-◌, ◌≤◌, pos, ◌-ℤ◌, ◌+◌, ◌/◌, ◌%◌, ◌<◌, ◌^◌, List, length, get_or, cond, ltb, min, ℤ, ◌+ℤ◌}
use Rattle.std.specs.Prelude.{replicate}
use Rattle.std.proofs.Math.Nat.{add_comm}
use Rattle.std.proofs.lemmas.Simd.{get_or-zip2, get_or-replicate, length-zip2}
use Rattle.std.proofs.lemmas.Int.{ints}
use Rattle.std.proofs.lemmas.Bool.{cases_lt}
use Rattle.std.proofs.lemmas.Bool.Decides.{nat_tests}
use lib.Lanes.{zip2}
use Rattle.gradients.specs.Lanes.{HasLanes}
use Rattle.gradients.proofs.Lanes.{itself, zipped, splat}
use Rattle.gradients.specs.Modulo.{IsModulo}
use Rattle.shade.specs.Quotient.{IsQuotient}
use Rattle.gradients.specs.declared.plane.Plane.{Plane}
use Rattle.gradients.specs.declared.slope.Slope.{Slope}
use Rattle.gradients.specs.Candidate.{IsCandidate, IsNear}
use Rattle.gradients.specs.Plane.{IsCandidatePlane, IsHeight, IsHighPart, IsReached}
use Rattle.gradients.proofs.Certificate.{near_low, near_high, near_positive}
use Rattle.gradients.proofs.Raised.{candidate_for}
use Rattle.gradients.proofs.Modulos.{modulo_self, modulo_rest, wrapped_difference}

-- a lane's sum, for the operation f of the lanes
sum_at : (f : ℕ → ℕ → ℕ) (xs : List ℕ) (h i : ℕ) → ((a b : ℕ) → f a b ≡ (a + b) % 2 ^ 32) → length xs ≡ 16 → i < 16 → get_or (zip2 f xs (replicate 16 h)) i 0 ≡ (h + get_or xs i 0) % 2 ^ 32
sum_at f xs h i is long less =
    let within : i < length xs = omega arith in
    let second : get_or (replicate 16 h) i 0 ≡ h = get_or-replicate 16 i h 0 less in
    get_or-zip2 f xs (replicate 16 h) i 0 0 0 within less ∙ is _ _ ∙ ap (λ z. (get_or xs i 0 + z) % 2 ^ 32) second ∙ ap (λ z. z % 2 ^ 32) (add_comm (get_or xs i 0) h)

pub length_sum : (f : ℕ → ℕ → ℕ) (xs : List ℕ) (h : ℕ) → length xs ≡ 16 → length (zip2 f xs (replicate 16 h)) ≡ 16
length_sum f xs h long = length-zip2 f xs (replicate 16 h) long ∙ long

pub lane_is : (f : ℕ → ℕ → ℕ) (xs : List ℕ) (m i k area n : ℕ) (s : Slope) (p : Plane) (x y r b : ℤ) → ((a b : ℕ) → f a b ≡ (a + b) % 2 ^ 32) → length xs ≡ 16 → m < 2 ^ 64 → i < 16
    → IsCandidatePlane k area s p → IsHeight p x y m → IsHighPart p r b (get_or xs i 0) → IsReached k area s (x +ℤ r) (y +ℤ b) n → IsCandidate k n area (get_or (zip2 f xs (replicate 16 (m / 2 ^ 32))) i 0)
lane_is f xs m i k area n s p x y r b is long fits less plane height part reached =
    let lane : get_or (zip2 f xs (replicate 16 (m / 2 ^ 32))) i 0 ≡ (m / 2 ^ 32 + part.part / 2 ^ 32) % 2 ^ 32 =
    sum_at f xs (m / 2 ^ 32) i is long less ∙ ap (λ z. (m / 2 ^ 32 + z) % 2 ^ 32) part.is in
    let candidate : IsCandidate k n area ((m / 2 ^ 32 + part.part / 2 ^ 32) % 2 ^ 32) = candidate_for k n area s p x y r b m part.part fits part.fits plane height part.is_part reached in
    rw lane candidate

-- ---- integer parts
pub whole_24 : (f bits : ℕ) → f < 2 ^ 32 → bits ≡ 24 → f / 2 ^ bits ≤ 255
whole_24 f bits h e = rw e (omega (arith, h))

pub whole_fits : (f bits : ℕ) → f < 2 ^ 32 → (bits ≡ 16) ⊎ (bits ≡ 24) → f / 2 ^ bits < 2 ^ 16
whole_fits f bits h width = elim width [ inl e ↦ rw e (omega (arith, h)) | inr e ↦ rw e (omega (arith, h)) ]

-- ---- shifted lanes
abbrev pub high_parts : List ℕ → ℕ → List ℕ
high_parts m bits = zip2 (λ x k. x / 2 ^ k) m (replicate 16 bits)

pub high_parts_are : (m : List ℕ) (bits : ℕ) → length m ≡ 16 → HasLanes (high_parts m bits) (λ k. get_or m k 0 / 2 ^ bits)
high_parts_are m bits p = zipped (λ x k. x / 2 ^ k) m (replicate 16 bits) _ _ (itself m p) (splat bits)

-- ---- the remainders
abbrev pub rests_of : List ℕ → List ℕ → ℕ → List ℕ
rests_of numerators values area = zip2 (λ x y. (x + (2 ^ 64 - y)) % 2 ^ 64) numerators (zip2 (λ x y. x * y % 2 ^ 64) values (replicate 16 area))

pub rests_are : (numerators values : List ℕ) (area : ℕ) → length numerators ≡ 16 → length values ≡ 16
    → HasLanes (rests_of numerators values area) (λ k. (get_or numerators k 0 + (2 ^ 64 - get_or values k 0 * area % 2 ^ 64)) % 2 ^ 64)
rests_are numerators values area p q =
    zipped (λ x y. (x + (2 ^ 64 - y)) % 2 ^ 64) numerators (zip2 (λ x y. x * y % 2 ^ 64) values (replicate 16 area)) _ _ (itself numerators p) (zipped (λ x y. x * y % 2 ^ 64) values (replicate 16 area) _ _ (itself values q) (splat area))

pub rest_modulo : (numerators values : List ℕ) (area i n : ℕ) → length numerators ≡ 16 → length values ≡ 16 → i < 16 → IsModulo (pos n) (get_or numerators i 0)
    → IsModulo (pos n -ℤ pos (get_or values i 0 * area)) (get_or (rests_of numerators values area) i 0)
rest_modulo numerators values area i n p q l modulo =
    let product = modulo_rest (pos (get_or values i 0 * area)) (get_or values i 0 * area) (modulo_self (get_or values i 0 * area)) in
    let less : get_or values i 0 * area % 2 ^ 64 < 2 ^ 64 = omega arith in
    rw ((rests_are numerators values area p q).each i l) (wrapped_difference (pos n) (pos (get_or values i 0 * area)) (get_or numerators i 0) (get_or values i 0 * area % 2 ^ 64) less modulo product)

-- ---- the correction
abbrev pub less_by : List ℕ → List ℕ → List ℕ
less_by values signs = zip2 (λ x y. (x + (2 ^ 16 - y)) % 2 ^ 16) values signs

pub less_by_are : (values signs : List ℕ) → length values ≡ 16 → length signs ≡ 16 → HasLanes (less_by values signs) (λ k. (get_or values k 0 + (2 ^ 16 - get_or signs k 0)) % 2 ^ 16)
less_by_are values signs p q = zipped (λ x y. (x + (2 ^ 16 - y)) % 2 ^ 16) values signs _ _ (itself values p) (itself signs q)

pub lesser : (x y : ℕ) → cond (ltb x y) x y ≡ min x y
lesser x y = grind (arith, nat_tests)

min_first : (x y : ℕ) → x ≤ y → min x y ≡ x
min_first x y h = grind (arith, nat_tests)

min_second : (x y : ℕ) → y ≤ x → min x y ≡ y
min_second x y h = grind (arith, nat_tests)

-- the highest bit of the remainder decides which of the two the quotient is
pub lowered_is : (n s v r low sign : ℕ) → s ≤ 2 ^ 48 → v < 2 ^ 16 → r < 2 ^ 64 → low ≡ (v + (2 ^ 16 - sign)) % 2 ^ 16 → sign ≡ r / 2 ^ 63 → IsNear n s v → IsModulo (pos n -ℤ pos (v * s)) r
    → IsQuotient n s (min low v)
lowered_is n s v r low sign bound few fits e f near modulo =
    let next : (v + 1) * s ≡ v * s + s = omega arith in
    elim (cases_lt n (v * s)) [
      | inl less ↦
          let some = near_positive n s v less in
          let one : r / 2 ^ 63 ≡ 1 = omega (arith, ints, modulo.sum, near.1, bound, less, fits) in
          let down : low ≡ v - 1 = omega (arith, e, f, one, some, few) in
          rw (min_first low v (omega (arith, down))) (rw down (near_high n s v (v - 1) (omega (arith, some)) near less))
      | inr more ↦
          let none : r / 2 ^ 63 ≡ 0 = omega (arith, ints, modulo.sum, near.0, next, bound, more, fits) in
          let up : low ≡ v = omega (arith, e, f, none, few) in
          rw (min_second low v (omega (arith, up))) (near_low n s v near more)
    ]
