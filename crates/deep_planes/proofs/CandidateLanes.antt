-- Heights and remainders in lanes.
use Rattle.std.proofs.Common.{◌≡◌, arith, ℕ, ◌*◌, ◌-◌, ◌≤◌, pos, ◌-ℤ◌, ◌+◌, ◌/◌, ◌%◌, ◌<◌, ◌^◌, List, length, get_or, inl, inr, min}
use Rattle.std.proofs.lemmas.Int.{ints}
use Rattle.std.proofs.lemmas.Bool.{cases_lt}
use Rattle.std.proofs.lemmas.Bool.Decides.{nat_tests}
use lib.Lanes.{zip2}
use Rattle.shade.specs.Quotient.{IsQuotient}
use Rattle.gradients.specs.Lanes.{HasLanes}
use Rattle.gradients.specs.Modulo.{IsModulo}
use Rattle.gradients.specs.Candidate.{IsNear}
use Rattle.gradients.proofs.Lanes.{itself, zipped}
use Rattle.gradients.proofs.Certificate.{near_low, near_high, near_positive}

-- ---- the correction
abbrev pub less_by : List ℕ → List ℕ → List ℕ
less_by depths signs = zip2 (λ x y. (x + (2 ^ 32 - y)) % 2 ^ 32) depths signs

pub less_by_are : (depths signs : List ℕ) → length depths ≡ 16 → length signs ≡ 16 → HasLanes (less_by depths signs) (λ k. (get_or depths k 0 + (2 ^ 32 - get_or signs k 0)) % 2 ^ 32)
less_by_are depths signs p q = zipped (λ x y. (x + (2 ^ 32 - y)) % 2 ^ 32) depths signs _ _ (itself depths p) (itself signs q)

min_first : (x y : ℕ) → x ≤ y → min x y ≡ x
min_first x y h = grind (arith, nat_tests)

min_second : (x y : ℕ) → y ≤ x → min x y ≡ y
min_second x y h = grind (arith, nat_tests)

-- the highest bit of the remainder decides which of the two the quotient is
pub lowered_is : (n d v r low sign : ℕ) → d ≤ 2 ^ 56 → v < 2 ^ 32 → r < 2 ^ 64 → low ≡ (v + (2 ^ 32 - sign)) % 2 ^ 32 → sign ≡ r / 2 ^ 63 → IsNear n d v → IsModulo (pos n -ℤ pos (v * d)) r
    → IsQuotient n d (min low v)
lowered_is n d v r low sign bound few fits e f near modulo =
    let next : (v + 1) * d ≡ v * d + d = omega arith in
    elim (cases_lt n (v * d)) [
      | inl less ↦
          let some = near_positive n d v less in
          let one : r / 2 ^ 63 ≡ 1 = omega (arith, ints, modulo.sum, near.1, bound, less, fits) in
          let down : low ≡ v - 1 = omega (arith, e, f, one, some, few) in
          rw (min_first low v (omega (arith, down))) (rw down (near_high n d v (v - 1) (omega (arith, some)) near less))
      | inr more ↦
          let none : r / 2 ^ 63 ≡ 0 = omega (arith, ints, modulo.sum, near.0, next, bound, more, fits) in
          let up : low ≡ v = omega (arith, e, f, none, few) in
          rw (min_second low v (omega (arith, up))) (near_low n d v near more)
    ]
