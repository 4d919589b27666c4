use Rattle.std.proofs.Common.{◌≡◌, ◌↔◌, inl, inr, refl, sym, subst, arith, ℕ, zero, suc, ◌^◌, ◌<◌, ℤ, pos, ◌≤ℤ◌, ◌<ℤ◌, Bool, true, false, cond, w32, w64, to_z, of_z, ◌⊎◌}
use Rattle.std.specs.Simd.Lanes.{top}
use Rattle.std.specs.Int.Signed.{lt_z}
use Rattle.std.proofs.lemmas.Int.{ints, to_z_pos}
use Rattle.std.proofs.lemmas.Bool.{false≢true, true≢false}
use Rattle.grid.specs.Bounds.{IsWithin}
use Rattle.polygons.proofs.Tests.{lt_yes, lt_no}
use Rattle.polygons.proofs.Triangle.{above_or_not}
use Rattle.polygons.proofs.part_rows.are_between.Goals as goal

-- the lane of a sample, by the first row and the row behind the last one as code reads them
abbrev lane : ℕ → ℤ → ℤ → ℕ
lane row from to =
    cond (top 63 (cond (lt_z (to_z w64 row) (to_z w64 (of_z w64 from))) 18446744073709551615 0)) 0 (cond (top 63 (cond (lt_z (to_z w64 row) (to_z w64 (of_z w64 to))) 18446744073709551615 0)) 1 0)

highest : (t : Bool) → top 63 (cond t 18446744073709551615 0) ≡ t
highest true = refl
highest false = refl

-- whether a row lies before another one
IsTest : Bool → ℤ → ℤ → Type 0
IsTest t x y = ((t ≡ true) × (x <ℤ y)) ⊎ ((t ≡ false) × (y ≤ℤ x))

test : (x y : ℤ) → IsTest (lt_z x y) x y
unfolding IsTest
test x y = elim (above_or_not x y) [
  | inl less ↦ inl (lt_yes x y less, less)
  | inr more ↦ inr (lt_no x y more, more)
]

abbrev chosen : Bool → Bool → ℕ
chosen t u = cond t 0 (cond u 1 0)

by_tests : (t u : Bool) (x from to : ℤ) → IsTest t x from → IsTest u x to → (chosen t u < 2) × ((chosen t u ≡ 1) ↔ ((from ≤ℤ x) × (x <ℤ to)))
unfolding IsTest
by_tests true u x from to (inl a) b = (omega arith, (λ e. absurd (omega (arith, e)), λ has. (let l = has.0 in let m = a.1 in absurd (omega (arith, ints)))))
by_tests true u x from to (inr a) b = absurd (true≢false a.0)
by_tests false u x from to (inl a) b = absurd (false≢true a.0)
by_tests false true x from to (inr a) (inl b) = (omega arith, (λ e. (a.1, b.1), λ has. refl))
by_tests false true x from to (inr a) (inr b) = absurd (true≢false b.0)
by_tests false false x from to (inr a) (inl b) = absurd (false≢true b.0)
by_tests false false x from to (inr a) (inr b) = (omega arith, (λ e. absurd (omega (arith, e)), λ has. (let l = has.1 in let m = b.1 in absurd (omega (arith, ints)))))

is_between : (row : ℕ) (a b from to : ℤ) → row < 64 → IsWithin (2 ^ 17) from → IsWithin (2 ^ 17) to → a ≡ to_z w32 (of_z w32 from) → b ≡ to_z w32 (of_z w32 to)
    → (lane row a b < 2) × ((lane row a b ≡ 1) ↔ ((from ≤ℤ pos row) × (pos row <ℤ to)))
is_between row a b from to low near_from near_to e f =
    let p = near_from.low in let q = near_from.high in let r = near_to.low in let s = near_to.high in
    let here : to_z w64 row ≡ pos row = to_z_pos w64 row (omega arith) in
    let from_is : to_z w64 (of_z w64 a) ≡ from = omega (arith, ints, e) in
    let to_is : to_z w64 (of_z w64 b) ≡ to = omega (arith, ints, f) in
    let same : lane row a b ≡ chosen (lt_z (pos row) from) (lt_z (pos row) to) = (λ i. cond (highest (lt_z (here i) (from_is i)) i) 0 (cond (highest (lt_z (here i) (to_is i)) i) 1 0)) in
    subst (λ n. (n < 2) × ((n ≡ 1) ↔ ((from ≤ℤ pos row) × (pos row <ℤ to)))) (sym same) (by_tests _ _ (pos row) from to (test (pos row) from) (test (pos row) to))

pub returns-clause-rows : goal.returns-clause-rows
returns-clause-rows c zero l = (is_between c.args.row _ _ _ _ c.requires.row (c.requires.from 0 l) (c.requires.to 0 l) c.from.ensures c.from-5.ensures).1
returns-clause-rows c (suc zero) l = (is_between c.args.row _ _ _ _ c.requires.row (c.requires.from 1 l) (c.requires.to 1 l) c.from-2.ensures c.from-6.ensures).1
returns-clause-rows c (suc (suc zero)) l = (is_between c.args.row _ _ _ _ c.requires.row (c.requires.from 2 l) (c.requires.to 2 l) c.from-3.ensures c.from-7.ensures).1
returns-clause-rows c (suc (suc (suc zero))) l = (is_between c.args.row _ _ _ _ c.requires.row (c.requires.from 3 l) (c.requires.to 3 l) c.from-4.ensures c.from-8.ensures).1
returns-clause-rows c (suc (suc (suc (suc s)))) l = absurd (omega arith)

pub returns-clause-each : goal.returns-clause-each
returns-clause-each c zero l = (is_between c.args.row _ _ _ _ c.requires.row (c.requires.from 0 l) (c.requires.to 0 l) c.from.ensures c.from-5.ensures).0
returns-clause-each c (suc zero) l = (is_between c.args.row _ _ _ _ c.requires.row (c.requires.from 1 l) (c.requires.to 1 l) c.from-2.ensures c.from-6.ensures).0
returns-clause-each c (suc (suc zero)) l = (is_between c.args.row _ _ _ _ c.requires.row (c.requires.from 2 l) (c.requires.to 2 l) c.from-3.ensures c.from-7.ensures).0
returns-clause-each c (suc (suc (suc zero))) l = (is_between c.args.row _ _ _ _ c.requires.row (c.requires.from 3 l) (c.requires.to 3 l) c.from-4.ensures c.from-8.ensures).0
returns-clause-each c (suc (suc (suc (suc s)))) l = absurd (omega arith)
