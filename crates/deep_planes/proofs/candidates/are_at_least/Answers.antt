use Rattle.std.proofs.Common.{◌≡◌, inl, inr, ℕ, eqb, ltb, get_or, arith, w32, IsTrue}
use Rattle.std.proofs.lemmas.Simd.{bitmask_splat}
use Rattle.std.proofs.lemmas.Bool.{cases_lt}
use Rattle.std.proofs.lemmas.Bool.Decides.{nat_tests, Decides-ltb}
use Rattle.gradients.proofs.Lanes.{is_set}
use Rattle.deep_planes.proofs.candidates.are_at_least.Goals as goal

zero : (n : ℕ) → IsTrue (eqb n 0) → n ≡ 0
zero n h = grind (arith, nat_tests)

pub returns : goal.returns
returns c h i l =
    let v = c.args.numbers in
    let least = c.args.least in
    let bits = bitmask_splat w32 ltb v 16 least c.fits-numbers.0 (omega arith) in
    let none = rw bits at (zero _ h) in
    elim (cases_lt (get_or v i 0) least) [
      | inl less ↦
          let set = is_set (λ x. ltb x least) v i (omega (arith, l, c.fits-numbers.0)) ((Decides-ltb (get_or v i 0) least).1 less) in
          absurd (omega (arith, none, set))
      | inr more ↦ omega (arith, more)
    ]
