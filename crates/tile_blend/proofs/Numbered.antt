-- Fragments by the number of their mask.
use Rattle.std.proofs.Common.{◌≡◌, ◌⊎◌, inl, inr, refl, ◌∙◌, ap, sym, subst, ℕ, ◌+◌, ◌*◌, ◌<◌, ◌≤◌, List, IsBitSet, arith}
use Rattle.grid.specs.Samples.{count_of}
use Rattle.grid.specs.declared.sample_count.SampleCount.{SampleCount}
use Rattle.shade.specs.declared.sample.CanvasSample.{CanvasSample}
use Rattle.shade.specs.declared.sample.Merge.{Merge}
use Rattle.lanes.proofs.LaneNumbers.{none_set}
use Rattle.blocks.specs.Layout.{block_in_tile, pixel_in_block}
use Rattle.blocks.proofs.Places.{part_within}
use Rattle.readout.specs.Tiles.{tile_entries, entry_in_tile}
use Rattle.readout.proofs.TileEntries.{number_below}
use Rattle.tile_blend.specs.Fragments.{tile_masks, entry_or_one, fragment_at, IsEachOrOne, TakesIf, TakesKept}

-- ---- entries that there are
pub entries_of_mask : (count : SampleCount) (q s size : ℕ) → q < 64 → s < count_of count → IsEachOrOne (tile_entries count) size → (size ≡ 1) ⊎ (64 * (q * count_of count + s) + 64 ≤ size)
entries_of_mask count q s size small h is =
    let below = number_below count q s small h in
    elim is [ inl one ↦ inl one | inr all ↦ inr (omega (arith, below, all)) ]

pub has_mask : (count : SampleCount) (q s size : ℕ) → q < 64 → s < count_of count → IsEachOrOne (tile_masks count) size → (size ≡ 1) ⊎ (q * count_of count + s < size)
has_mask count q s size small h is =
    let below = number_below count q s small h in
    elim is [ inl one ↦ inl one | inr all ↦ inr (omega (arith, below, all)) ]

pub has_masks : (count : SampleCount) (q size : ℕ) → q < 64 → IsEachOrOne (tile_masks count) size → (size ≡ 1) ⊎ (q * count_of count + count_of count ≤ size)
has_masks count q size small is =
    let room = part_within q 64 (count_of count) small in
    elim is [ inl one ↦ inl one | inr all ↦ inr (omega (arith, room, all)) ]

-- ---- what fragments make of a sample
-- by a mask, and the first of the fragments
abbrev pub TakesFrom : Merge → List ℕ → List ℕ → ℕ → ℕ → ℕ → CanvasSample → CanvasSample → Type 0
TakesFrom m colours depths mask from n = TakesIf (IsBitSet mask n) m (fragment_at colours depths (from + n))

-- by the number of the mask
abbrev pub TakesNumbered : Merge → List ℕ → List ℕ → List ℕ → ℕ → ℕ → CanvasSample → CanvasSample → Type 0
TakesNumbered m colours depths kept number = TakesFrom m colours depths (entry_or_one kept number) (64 * number)

module _ (count : SampleCount) (m : Merge) (colours depths kept : List ℕ) (i j s q : ℕ) (here : block_in_tile i j ≡ q) where
  pub takes_kept : (x y : CanvasSample) → TakesNumbered m colours depths kept (q * count_of count + s) (pixel_in_block i j) x y → TakesKept count m colours depths kept i j s x y
  takes_kept x y t =
      let n : ℕ = block_in_tile i j * count_of count + s in
      let entry : 64 * n + pixel_in_block i j ≡ entry_in_tile count i j s = omega arith in
      subst (λ e. TakesIf (IsBitSet (entry_or_one kept n) (pixel_in_block i j)) m (fragment_at colours depths e) x y) entry
      (subst (λ b. TakesNumbered m colours depths kept (b * count_of count + s) (pixel_in_block i j) x y) (sym here) t)

  -- of a mask without bits none is kept
  pub takes_none : (x : CanvasSample) → entry_or_one kept (q * count_of count + s) ≡ 0 → TakesKept count m colours depths kept i j s x x
  takes_none x none = record {
    taken = λ set. absurd (none_set (pixel_in_block i j) (subst (λ mask. IsBitSet mask (pixel_in_block i j)) (ap (λ b. entry_or_one kept (b * count_of count + s)) here ∙ none) set));
    left = λ _. refl;
  }
