-- Blocks of a tile that are changed one after another.
use Rattle.std.proofs.Common.{◌≡◌, ◌∙◌, inl, inr, refl, sym, subst, ℕ, ◌+◌, ◌<◌, ◌≤◌, List, arith}
use Rattle.std.proofs.lemmas.Bool.{cases_lt}
use Rattle.grid.specs.Samples.{count_of}
use Rattle.grid.specs.declared.sample_count.SampleCount.{SampleCount}
use Rattle.shade.specs.declared.sample.CanvasSample.{CanvasSample}
use Rattle.lanes.specs.declared.block_samples.BlockSamples.{BlockSamples}
use Rattle.blocks.specs.Layout.{block_in_tile, stored_in_tile, KeepsOtherSamples}

-- the samples of the blocks before number q became what R says, and the others are unchanged
pub record AreBlocksChanged (count : SampleCount) (q : ℕ) (R : ℕ → ℕ → ℕ → CanvasSample → CanvasSample → Type 0) (old new : List BlockSamples) : Type 0 where
  pub changed : (i j s : ℕ) → s < count_of count → block_in_tile i j < q → R i j s (stored_in_tile count old i j s) (stored_in_tile count new i j s)
  pub rest : (i j s : ℕ) → s < count_of count → q ≤ block_in_tile i j → stored_in_tile count new i j s ≡ stored_in_tile count old i j s

pub no_block : (count : SampleCount) (R : ℕ → ℕ → ℕ → CanvasSample → CanvasSample → Type 0) (xs : List BlockSamples) → AreBlocksChanged count 0 R xs xs
no_block count R xs = record { changed = λ i j s h l. absurd (omega (arith, l)); rest = λ i j s _ _. refl }

pub one_block : (count : SampleCount) (q : ℕ) (R : ℕ → ℕ → ℕ → CanvasSample → CanvasSample → Type 0) (old middle new : List BlockSamples)
    → ((i j s : ℕ) → s < count_of count → block_in_tile i j ≡ q → R i j s (stored_in_tile count middle i j s) (stored_in_tile count new i j s)) → KeepsOtherSamples count q middle new
    → AreBlocksChanged count q R old middle → AreBlocksChanged count (q + 1) R old new
one_block count q R old middle new block others before = record {
  changed = λ i j s h l.
      elim (cases_lt (block_in_tile i j) q) [
        | inl less ↦ subst (λ x. R i j s (stored_in_tile count old i j s) x) (sym (others i j s h (λ e. omega (arith, e, less)))) (before.changed i j s h less)
        | inr more ↦
            let here : block_in_tile i j ≡ q = omega (arith, l, more) in
            subst (λ x. R i j s x (stored_in_tile count new i j s)) (before.rest i j s h (omega (arith, more))) (block i j s h here)
      ];
  rest = λ i j s h l. others i j s h (λ e. omega (arith, e, l)) ∙ before.rest i j s h (omega (arith, l));
}
