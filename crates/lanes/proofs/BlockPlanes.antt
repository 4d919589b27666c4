-- The samples of a block, drawn sample index by sample index.
use Rattle.std.proofs.Common.{◌≡◌, ◌≢◌, sym, ◌∙◌, subst, inl, inr, ℕ, ◌+◌, ◌<◌, ◌≤◌, arith, List, length, slice_set, slice_index}
use Rattle.std.proofs.lemmas.Bool.{cases_lt}
use Rattle.std.proofs.lemmas.List.{get_or-set_same, get_or-set_other, length-set}
use Rattle.lanes.specs.declared.block_samples.BlockSamples.{BlockSamples}
use Rattle.lanes.specs.declared.block_mask.BlockMask.{BlockMask}
use Rattle.grid.specs.Position.{Position}
use Rattle.shade.specs.declared.sample.CanvasSample.{CanvasSample}
use Rattle.lanes.specs.Block.{AreDrawn}
use Rattle.lanes.specs.BlockMask.{first_of, plane_of}

-- what the samples s become
abbrev pub IsPlaneDrawn : (Position → CanvasSample → CanvasSample → Type 0) → BlockMask → ℕ → BlockSamples → BlockSamples → Type 0
IsPlaneDrawn D m s old new = AreDrawn D (first_of m s) (slice_index m.plane s) old new 0 64

-- the samples of the first n sample indices are done, and the others are unchanged
pub record AreDoneBefore (D : Position → CanvasSample → CanvasSample → Type 0) (m : BlockMask) (old new : List BlockSamples) (n : ℕ) : Type 0 where
  pub long : length new ≡ length old
  pub done : (s : ℕ) → s < n → IsPlaneDrawn D m s (plane_of old s) (plane_of new s)
  pub ahead : (s : ℕ) → n ≤ s → plane_of new s ≡ plane_of old s

module _ (D : Position → CanvasSample → CanvasSample → Type 0) (m : BlockMask) where
  pub none_done : (xs : List BlockSamples) → AreDoneBefore D m xs xs 0
  none_done xs = record { long = λ i. length xs; done = λ s l. absurd (omega arith); ahead = λ s l i. plane_of xs s }

  module _ (old now : List BlockSamples) (n : ℕ) (begun : AreDoneBefore D m old now n) where
    -- the next samples become x
    module _ (x : BlockSamples) (room : n < length old) (next : IsPlaneDrawn D m n (plane_of now n) x) where
      here : plane_of (slice_set now n x) n ≡ x
      here = get_or-set_same now n x _ (omega (arith, begun.long))

      elsewhere : (s : ℕ) → s ≢ n → plane_of (slice_set now n x) s ≡ plane_of now s
      elsewhere s other = get_or-set_other now n s x _ other

      pub and_plane : AreDoneBefore D m old (slice_set now n x) (n + 1)
      and_plane = record {
        long = length-set now n x ∙ begun.long;
        done = λ s l.
            elim (cases_lt s n) [
              | inl before ↦ subst (λ y. IsPlaneDrawn D m s (plane_of old s) y) (sym (elsewhere s (λ e. omega arith))) (begun.done s before)
              | inr from ↦
                  let same : n ≡ s = omega arith in
                  subst (λ k. IsPlaneDrawn D m k (plane_of old k) (plane_of (slice_set now n x) k)) same
                  (subst (λ y. IsPlaneDrawn D m n (plane_of old n) y) (sym here) (subst (λ y. IsPlaneDrawn D m n y x) (begun.ahead n (omega arith)) next))
            ];
        ahead = λ s l. elsewhere s (λ e. omega arith) ∙ begun.ahead s (omega arith);
      }
