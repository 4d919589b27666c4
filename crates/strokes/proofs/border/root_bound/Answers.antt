-- A threshold is half the root, or at a tie that is not owned the number before it.
use Rattle.std.proofs.Common.{arith, ◌≡◌, ℕ, ◌+◌, ◌*◌, ◌/◌, ◌%◌, ◌≤◌, ◌<◌, pos, ◌-ℤ◌, w64, of_z, to_z, IsTrue}
use Rattle.std.proofs.lemmas.Int.{ints}
use Rattle.strokes.proofs.Roots.{threshold, threshold_tie, not_true}
use Rattle.strokes.proofs.border.root_bound.Goals as goal
use Rattle.strokes.proofs.border.root_bound.Goals.{else-root-eq0-via-then-root-eq0+then-root-square+else-not-is_owned, else-root-eq0-via-then-root-eq0+else-root-square, else-root-eq0-via-else-root-eq0}

pub returns-then-not-is_owned-clause-meaning : goal.returns-then-not-is_owned-clause-meaning
returns-then-not-is_owned-clause-meaning c f =
    let k : ℕ = c.isqrt-root.result in
    let e : to_z w64 (of_z w64 (to_z w64 (k / 2) -ℤ pos 1)) ≡ pos (k / 2) -ℤ pos 1 = omega (arith, ints, c.isqrt-root.ensures.bound) in
    rw e (threshold_tie k c.args.square c.args.is_owned f c.if-root-eq0.true c.if-root-square.true (not_true c.args.is_owned c.if-not-is_owned.true))

pub returns-else-root-eq0-clause-meaning : goal.returns-else-root-eq0-clause-meaning
returns-else-root-eq0-clause-meaning c f =
    let k : ℕ = c.isqrt-root.result in
    let e : to_z w64 (k / 2) ≡ pos (k / 2) = omega (arith, ints, c.isqrt-root.ensures.bound) in
    let low : k * k ≤ c.args.square = omega (arith, c.isqrt-root.ensures.square_le) in
    let high : c.args.square < (k + 1) * (k + 1) = omega (arith, c.isqrt-root.ensures.next_square_gt) in
    let tie : k % 2 ≡ 0 → k * k ≡ c.args.square → IsTrue c.args.is_owned =
    λ even whole. elim c.else-root-eq0.branch [
      | else-root-eq0-via-then-root-eq0+then-root-square+else-not-is_owned w ↦ w.if-not-is_owned.false
      | else-root-eq0-via-then-root-eq0+else-root-square w ↦ absurd (w.if-root-square.false whole)
      | else-root-eq0-via-else-root-eq0 w ↦ absurd (w.if-root-eq0.false even)
    ] in
    rw e (threshold k c.args.square c.args.is_owned f low high tie)
