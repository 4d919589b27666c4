use Rattle.std.proofs.Common.{◌≡◌, inl, inr, refl, sym, ap, ◌∙◌, arith, ℕ, ◌+◌, ◌%◌, ◌^◌, true, leb, cond, get_or, replicate, w32}
use Rattle.std.proofs.lemmas.Bool.{cases_lt, eqb-true, eq-eqb, lt-ltb, le-ltb}
use Rattle.std.proofs.lemmas.Nat.Bits.{bit_at-zero}
use Rattle.std.specs.Int.{bit_at}
use Rattle.polygons.proofs.MaskLanes.{splat}
use Rattle.polygons.proofs.ByteSums.{raised, bit_of_test, no_lane}
use Rattle.polygons.proofs.byte_sums.are_small.Goals as goal

pub returns : goal.returns
returns c = (
  λ t r l.
      let sum = (get_or c.args.sums r 0 + 64) % 2 ^ 32 in
      let bit = bit_of_test w32 leb 8 (replicate 8 128) _ _ _ (omega arith) (splat 8 128) (raised 8 c.args.sums 64 c.requires) r l in
      let none : cond (leb 128 sum) 1 0 ≡ 0 = sym bit ∙ ap (λ m. bit_at m r) (eqb-true _ 0 t) ∙ bit_at-zero r in
      elim (cases_lt sum 128) [
        | inl less ↦ less
        | inr more ↦ absurd (let one : leb 128 sum ≡ true = lt-ltb 127 sum (omega (arith, more)) in let some : cond {A = ℕ} (leb 128 sum) 1 0 ≡ 1 = rw one refl in omega (arith, none, some))
      ],
  λ all. eq-eqb _ 0 (no_lane w32 leb 8 (replicate 8 128) _ _ _ (omega arith) (splat 8 128) (raised 8 c.args.sums 64 c.requires)
      (λ r l. let small = all r l in le-ltb 127 _ (omega (arith, small)))),
)
