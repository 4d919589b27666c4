use Rattle.std.proofs.Common.{arith, ◌≡◌, pos, ◌-ℤ◌, ◌*ℤ◌, ◌<ℤ◌, neg_ℤ, ◌≤ℤ◌, w32, to_z, of_z}
use Rattle.std.proofs.lemmas.Int.{ints}
use Rattle.grid.proofs.Sign.{test_lt}
use Rattle.strokes.proofs.cap.is_across.Goals as goal

pub returns-then-bound-double : goal.returns-then-bound-double
returns-then-bound-double c =
    let d : to_z w32 (of_z w32 (pos 2 *ℤ to_z w32 (of_z w32 (to_z w32 (of_z w32 c.args.z) -ℤ to_z w32 (of_z w32 c.args.center))))) ≡ pos 2 *ℤ (c.args.z -ℤ c.args.center) =
    omega (arith, ints, c.requires.center.low, c.requires.center.high, c.requires.z.low, c.requires.z.high) in
    let w : to_z w32 c.args.width ≡ pos c.args.width = omega (arith, ints, c.requires.width) in
    let low : neg_ℤ (pos c.args.width) ≤ℤ (pos 2 *ℤ (c.args.z -ℤ c.args.center)) = omega (arith, ints, d, w, c.if-bound-double.true, c.requires.width) in
    rw (d, w) (
      λ t. record { low = low; high = grind (arith, ints, t) },
      λ h. test_lt _ _ h.high,
    )

pub returns-else-bound-double : goal.returns-else-bound-double
returns-else-bound-double c =
    let d : to_z w32 (of_z w32 (pos 2 *ℤ to_z w32 (of_z w32 (to_z w32 (of_z w32 c.args.z) -ℤ to_z w32 (of_z w32 c.args.center))))) ≡ pos 2 *ℤ (c.args.z -ℤ c.args.center) =
    omega (arith, ints, c.requires.center.low, c.requires.center.high, c.requires.z.low, c.requires.z.high) in
    let w : to_z w32 (of_z w32 (pos 0 -ℤ to_z w32 c.args.width)) ≡ neg_ℤ (pos c.args.width) = omega (arith, ints, c.requires.width) in
    let out : (pos 2 *ℤ (c.args.z -ℤ c.args.center)) <ℤ neg_ℤ (pos c.args.width) = omega (arith, ints, d, w, c.if-bound-double.false) in
    rw (d, w) (
      λ t. absurd (grind (arith, ints, t, out)),
      λ h. absurd (let l = h.low in omega (arith, ints, out, l)),
    )
