use Rattle.std.proofs.Common.{◌≡◌, arith, ℕ, ◌+◌, ◌*◌, ℤ, pos, w32, to_z, of_z, ◌+ℤ◌, ◌*ℤ◌, ◌≤ℤ◌}
use Rattle.std.proofs.lemmas.Int.{ints, clamps}
use Rattle.std.specs.Int.{int_min}
use Rattle.grid.specs.Position.{IsInBand}
use Rattle.polygons.specs.Screen.{IsPixelInBand}
use Rattle.polygons.proofs.apart.runs_right.Goals as goal

left_end : (column m a b a' b' : ℤ) (n : ℕ) → IsPixelInBand column → (pos 256 *ℤ to_z w32 (of_z w32 column) +ℤ pos n) ≤ℤ to_z w32 (of_z w32 m)
    → m ≡ int_min (to_z w32 (of_z w32 a)) (to_z w32 (of_z w32 b)) → IsInBand a → IsInBand b → a ≡ a' → b ≡ b' → ((pos 256 *ℤ column +ℤ pos n) ≤ℤ a') × ((pos 256 *ℤ column +ℤ pos n) ≤ℤ b')
left_end column m a b a' b' n hc h is ha hb e f = (omega (arith, ints, clamps), omega (arith, ints, clamps))

both_ends : (column m a b a' b' : ℤ) (n : ℕ) → IsPixelInBand column → ((pos 256 *ℤ column +ℤ pos n) ≤ℤ a') × ((pos 256 *ℤ column +ℤ pos n) ≤ℤ b')
    → m ≡ int_min (to_z w32 (of_z w32 a)) (to_z w32 (of_z w32 b)) → IsInBand a → IsInBand b → a ≡ a' → b ≡ b' → (pos 256 *ℤ to_z w32 (of_z w32 column) +ℤ pos n) ≤ℤ to_z w32 (of_z w32 m)
both_ends column m a b a' b' n hc h is ha hb e f = let ah = h.0 in let bh = h.1 in omega (arith, ints, clamps)

pub returns : goal.returns
returns c =
    let ends = c.min.ensures.value in
    let a = c.x-a.ensures in
    let b = c.x-b.ensures in (
      λ t k h. left_end c.args.strip.now.column c.min.result c.x-a.result c.x-b.result _ _ (256 * (k + 1)) c.args.strip.now.across (c.is_right.ensures.0 t k h) ends a.in_band b.in_band a.value b.value,
      λ right. c.is_right.ensures.1 (λ k h. both_ends c.args.strip.now.column c.min.result c.x-a.result c.x-b.result _ _ (256 * (k + 1)) c.args.strip.now.across (right k h) ends a.in_band b.in_band a.value b.value),
    )
