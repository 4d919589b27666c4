use Rattle.std.proofs.Common.{◌≡◌, ◌∙◌, ap, arith, ℕ, ◌^◌, ◌≤◌, ℤ, pos, ◌-ℤ◌, ◌*ℤ◌, ◌<ℤ◌, ◌≤ℤ◌, w64, to_z, of_z, FitsSigned}
use Rattle.std.proofs.lemmas.Int.{ints}
use Rattle.std.specs.Int.{int_rem_euclid}
use Rattle.grid.specs.Bounds.{IsWithin}
use Rattle.grid.proofs.Bounds.{IsWithin-mul}
use Rattle.polygons.proofs.Division.{division}
use Rattle.polygons.proofs.walk.Descent.before.Goals as goal

small64 : (z : ℤ) → IsWithin (2 ^ 43) z → to_z w64 (of_z w64 z) ≡ z
small64 z h = omega (arith, ints)

fits64 : (z : ℤ) → IsWithin (2 ^ 43) z → FitsSigned w64 z
fits64 z h = omega (arith, ints)

-- the difference as the code forms it
record IsBefore (above height u part y : ℤ) (r : ℤ) (n : ℕ) : Type 0 where
  size : IsWithin (2 ^ 43) ((above -ℤ height *ℤ r) -ℤ part *ℤ (pos 256 -ℤ pos n))
  value : to_z w64 (of_z w64 (to_z w64 (of_z w64 above) -ℤ to_z w64 (of_z w64 (to_z w64 (of_z w64 height) *ℤ to_z w64 (of_z w64 u))))) -ℤ to_z w64 (of_z w64 (to_z w64 (of_z w64 part) *ℤ to_z w64 (of_z w64 (pos 256 -ℤ to_z w64 (of_z w64 y)))))
      ≡ (above -ℤ height *ℤ r) -ℤ part *ℤ (pos 256 -ℤ pos n)

before : (above height u part y t : ℤ) (n : ℕ) → IsWithin (2 ^ 34) above → IsWithin (2 ^ 25) height → IsWithin (2 ^ 25) part → FitsSigned w64 t
    → u ≡ int_rem_euclid (to_z w64 (of_z w64 t)) (pos 256) → y ≡ pos n → n ≤ 32768 → IsBefore above height u part y (int_rem_euclid t (pos 256)) n
before above height u part y t n ha hh hp ht is_u is_y h =
    let t_is : to_z w64 (of_z w64 t) ≡ t = omega (arith, ints) in
    let r : ℤ = int_rem_euclid t (pos 256) in
    let u_is : u ≡ r = is_u ∙ ap (λ z. int_rem_euclid z (pos 256)) t_is in
    let law = division t (pos 256) (omega (arith, ints)) in
    by_rest r u_is law.low law.high
  where
    by_rest : (r : ℤ) → u ≡ r → pos 0 ≤ℤ r → r <ℤ pos 256 → IsBefore above height u part y r n
    by_rest r u_is low high =
        let down : to_z w64 (of_z w64 (pos 256 -ℤ to_z w64 (of_z w64 y))) ≡ pos 256 -ℤ pos n = omega (arith, ints) in
        let u_same : to_z w64 (of_z w64 u) ≡ r = omega (arith, ints) in
        let h_same : to_z w64 (of_z w64 height) ≡ height = omega (arith, ints) in
        let p_same : to_z w64 (of_z w64 part) ≡ part = omega (arith, ints) in
        let p : IsWithin (2 ^ 33) (height *ℤ r) = IsWithin-mul height r (2 ^ 25) (2 ^ 8) hh (record { low = omega (arith, ints); high = omega (arith, ints) }) in
        let q : IsWithin (2 ^ 40) (part *ℤ (pos 256 -ℤ pos n)) = IsWithin-mul part (pos 256 -ℤ pos n) (2 ^ 25) (2 ^ 15) hp (record { low = omega (arith, ints); high = omega (arith, ints) }) in
        let p_is : to_z w64 (of_z w64 (to_z w64 (of_z w64 height) *ℤ to_z w64 (of_z w64 u))) ≡ height *ℤ r =
        (λ i. to_z w64 (of_z w64 (h_same i *ℤ u_same i))) ∙ omega (arith, ints, p.low, p.high) in
        let q_is : to_z w64 (of_z w64 (to_z w64 (of_z w64 part) *ℤ to_z w64 (of_z w64 (pos 256 -ℤ to_z w64 (of_z w64 y))))) ≡ part *ℤ (pos 256 -ℤ pos n) =
        (λ i. to_z w64 (of_z w64 (p_same i *ℤ down i))) ∙ omega (arith, ints, q.low, q.high) in
        let first : to_z w64 (of_z w64 (to_z w64 (of_z w64 above) -ℤ height *ℤ r)) ≡ above -ℤ height *ℤ r = omega (arith, ints, p.low, p.high, ha.low, ha.high) in
        record {
          size = record { low = omega (arith, ints, p.low, p.high, q.low, q.high, ha.low, ha.high); high = omega (arith, ints, p.low, p.high, q.low, q.high, ha.low, ha.high) };
          value = (λ i. to_z w64 (of_z w64 (to_z w64 (of_z w64 above) -ℤ p_is i)) -ℤ q_is i) ∙ ap (λ z. z -ℤ part *ℤ (pos 256 -ℤ pos n)) first;
        }

pub overflow_sub-result-3 : goal.overflow_sub-result-3
overflow_sub-result-3 c =
    let s = c.args.self.now in
    let b = before s.above s.height c.rem_euclid.result s.part c.from.result c.args.behind c.args.below c.requires.above c.requires.step.height c.requires.step.part c.ranges.behind c.rem_euclid.ensures.value c.from.ensures c.requires.below in
    rw b.value (fits64 _ b.size)

pub returns-clause-value : goal.returns-clause-value
returns-clause-value c =
    let s = c.args.self.now in
    let b = before s.above s.height c.rem_euclid.result s.part c.from.result c.args.behind c.args.below c.requires.above c.requires.step.height c.requires.step.part c.ranges.behind c.rem_euclid.ensures.value c.from.ensures c.requires.below in
    ap (λ z. to_z w64 (of_z w64 z)) b.value ∙ small64 _ b.size

pub returns-clause-size : goal.returns-clause-size
returns-clause-size c =
    let s = c.args.self.now in
    let b = before s.above s.height c.rem_euclid.result s.part c.from.result c.args.behind c.args.below c.requires.above c.requires.step.height c.requires.step.part c.ranges.behind c.rem_euclid.ensures.value c.from.ensures c.requires.below in
    rw b.value (rw (small64 _ b.size) b.size)
