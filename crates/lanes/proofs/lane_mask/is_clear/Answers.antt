use Rattle.std.proofs.Common.{◌≡◌, ℕ, eqb, get_or, arith, w16, IsTrue}
use Rattle.std.proofs.lemmas.Simd.{bitmask_splat}
use Rattle.std.proofs.lemmas.Bool.Decides.{nat_tests, Decides-eqb}
use Rattle.gradients.proofs.Lanes.{is_set}
use Rattle.lanes.proofs.lane_mask.is_clear.Goals as goal

zero : (n : ℕ) → IsTrue (eqb n 0) → n ≡ 0
zero n h = grind (arith, nat_tests)

pub returns : goal.returns
returns c h i l e =
    let m = c.args.m in
    let bits = bitmask_splat w16 eqb m 16 65535 c.fits-m.0 (omega arith) in
    let none = rw bits at (zero _ h) in
    let set = is_set (λ x. eqb x 65535) m i (omega (arith, c.fits-m.0)) ((Decides-eqb (get_or m i 0) 65535).1 e) in
    omega (arith, none, set)
