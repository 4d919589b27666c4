use Rattle.std.proofs.Common.{◌≡◌, inl, inr, ℕ, eqb, ltb, get_or, arith, w32, IsTrue}
use Rattle.std.proofs.lemmas.Simd.{bitmask_splat}
use Rattle.std.proofs.lemmas.Bool.{cases_lt}
use Rattle.std.proofs.lemmas.Bool.Decides.{nat_tests, Decides-ltb}
use Rattle.gradients.proofs.Lanes.{is_set}
use Rattle.gradients.proofs.candidates.are_sure.Goals as goal

zero : (n : ℕ) → IsTrue (eqb n 0) → n ≡ 0
zero n h = grind (arith, nat_tests)

pub returns : goal.returns
returns c h i l =
    let v = c.args.fractions in
    let bits = bitmask_splat w32 ltb v 16 3 c.fits-fractions.0 (omega arith) in
    let none = rw bits at (zero _ h) in
    elim (cases_lt (get_or v i 0) 3) [
      | inl less ↦
          let set = is_set (λ x. ltb x 3) v i (omega (arith, l, c.fits-fractions.0)) ((Decides-ltb (get_or v i 0) 3).1 less) in
          absurd (omega (arith, none, set))
      | inr more ↦ omega (arith, more)
    ]
