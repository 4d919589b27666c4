use Rattle.std.proofs.Common.{◌≡◌, inl, inr, refl, sym, ap, ◌∙◌, arith, ℕ, ◌+◌, ◌%◌, ◌^◌, ◌<◌, true, leb, cond, slice_index, replicate, w32}
use Rattle.std.proofs.lemmas.Bool.{cases_lt, eqb-true, eq-eqb, lt-ltb, le-ltb}
use Rattle.std.proofs.lemmas.Nat.Bits.{bit_at-zero}
use Rattle.std.specs.Int.{bit_at}
use Rattle.polygons.proofs.MaskLanes.{splat}
use Rattle.polygons.proofs.ByteSums.{raised, bit_of_test, no_lane}
use Rattle.polygons.proofs.four_sums.are_small.Goals as goal

pub returns : goal.returns
returns c =
    let sums = c.sums_of.ensures in (
      λ t q l.
          let sum = (slice_index c.sums_of.result q + 8) % 2 ^ 32 in
          let bit = bit_of_test w32 leb 32 (replicate 32 16) _ _ _ (omega arith) (splat 32 16) (raised 32 c.sums_of.result 8 sums.whole) q l in
          let none : cond (leb 16 sum) 1 0 ≡ 0 = sym bit ∙ ap (λ m. bit_at m q) (eqb-true _ 0 t) ∙ bit_at-zero q in
          let same = sums.each q l in
          let small : sum < 16 = elim (cases_lt sum 16) [
            | inl less ↦ less
            | inr more ↦ absurd (let one : leb 16 sum ≡ true = lt-ltb 15 sum (omega (arith, more)) in let some : cond {A = ℕ} (leb 16 sum) 1 0 ≡ 1 = rw one refl in omega (arith, none, some))
          ] in
          omega (arith, small, same),
      λ all. eq-eqb _ 0 (no_lane w32 leb 32 (replicate 32 16) _ _ _ (omega arith) (splat 32 16) (raised 32 c.sums_of.result 8 sums.whole)
          (λ q l. let small = all q l in let same = sums.each q l in le-ltb 15 _ (omega (arith, small, same)))),
    )
