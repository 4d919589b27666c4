use Rattle.std.proofs.Common.{ap, zero, suc, ◌<◌, ◌≡◌, ◌∙◌, ℕ, ◌+◌, ◌*◌, List, [], ◌∷◌, slice_index, refl, arith}
use Rattle.raster.specs.Colours.{AreInterleaved}
use Rattle.readout.proofs.Arranged.{same_four}
use Rattle.readout.proofs.format.arranged.Goals as goal
use Rattle.readout.proofs.format.arranged.Goals.{in-Rgb8, in-Rgba8, in-Bgra8, in-Rgba8Straight, in-Bgra8Straight}

rgb_is : (r g b bytes : List ℕ) → AreInterleaved r g b bytes → (i k : ℕ) → i < 8 → k < 3 → slice_index bytes (i * 3 + k) ≡ slice_index (slice_index r i ∷ slice_index g i ∷ slice_index b i ∷ []) k
rgb_is r g b bytes is i zero l h = ap (λ n. slice_index bytes n) (omega arith) ∙ (is i l).0
rgb_is r g b bytes is i (suc zero) l h = ap (λ n. slice_index bytes n) (omega arith) ∙ (is i l).1
rgb_is r g b bytes is i (suc (suc zero)) l h = ap (λ n. slice_index bytes n) (omega arith) ∙ (is i l).2
rgb_is r g b bytes is i (suc (suc (suc k))) l h = absurd (omega arith)

pub returns-clause-bytes : goal.returns-clause-bytes
returns-clause-bytes c = elim c.match-format.branch [
  | in-Rgb8 w ↦ rw (w.in-Rgb8.is, w.result-is) (λ i l k small. rgb_is c.args.red c.args.green c.args.blue _ w.interleaved.ensures.bytes i k l small)
  | in-Rgba8 w ↦ rw (w.in-Rgba8.is, w.result-is) w.four_interleaved.ensures.bytes
  | in-Bgra8 w ↦ rw (w.in-Bgra8.is, w.result-is) w.four_interleaved-in-Bgra8.ensures.bytes
  | in-Rgba8Straight w ↦
      rw (w.in-Rgba8Straight.is, w.result-is)
      (λ i l k small. w.four_interleaved-in-Rgba8Straight.ensures.bytes i l k small ∙ same_four _ _ _ _ _ _ _ _ k (w.straight_run.ensures.divided i l) (w.straight_run-in-Rgba8Straight.ensures.divided i l) (w.straight_run-in-Rgba8Straight-2.ensures.divided i l) refl)
  | in-Bgra8Straight w ↦
      rw (w.in-Bgra8Straight.is, w.result-is)
      (λ i l k small. w.four_interleaved-in-Bgra8Straight.ensures.bytes i l k small ∙ same_four _ _ _ _ _ _ _ _ k (w.straight_run-in-Bgra8Straight.ensures.divided i l) (w.straight_run-in-Bgra8Straight-2.ensures.divided i l) (w.straight_run-in-Bgra8Straight-3.ensures.divided i l) refl)
]
