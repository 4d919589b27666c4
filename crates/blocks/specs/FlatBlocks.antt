-- Blocks that have one sample or two.
use Rattle.std.specs.Prelude.{◌≡◌, ◌≢◌, ◌⊎◌, ℕ, ◌<◌, List, slice_index}
use Rattle.std.specs.Int.{bit_at}
use Rattle.grid.specs.Samples.{count_of}
use Rattle.grid.specs.declared.sample_count.SampleCount.{SampleCount}
use Rattle.shade.specs.declared.sample.CanvasSample.{CanvasSample}
use Rattle.lanes.specs.declared.block_samples.BlockSamples.{BlockSamples}
use Rattle.blocks.specs.declared.flat_block.FlatBlock.{FlatBlock}
use Rattle.blocks.specs.Layout.{block_in_tile, pixel_in_block, stored_in_tile, chosen}

-- Sample s of pixel p of the block: the second one where its mask has the pixel's bit, else the first.
abbrev pub flat_sample : FlatBlock → ℕ → ℕ → CanvasSample
flat_sample flat s p = chosen (slice_index flat.masks s) p flat.second flat.first

-- The samples of block k of a tile are these.
abbrev pub HasFlat : SampleCount → ℕ → FlatBlock → List BlockSamples → Type 0
HasFlat count k flat samples =
    (i j s : ℕ) → s < count_of count → block_in_tile i j ≡ k → stored_in_tile count samples i j s ≡ flat_sample flat s (pixel_in_block i j)

-- All samples of block k of a tile are this one.
abbrev pub HasOne : SampleCount → ℕ → CanvasSample → List BlockSamples → Type 0
HasOne count k sample samples = (i j s : ℕ) → s < count_of count → block_in_tile i j ≡ k → stored_in_tile count samples i j s ≡ sample

-- The block once `first` has taken the place of its first sample, and `second` that of its second one.
abbrev pub with_samples : FlatBlock → CanvasSample → CanvasSample → FlatBlock
with_samples flat first second = record { first = first; second = second; masks = flat.masks }

-- Where the masks have a bit, `first` has taken the place of the first sample, and `second` that of the second one.
abbrev pub IsFlatReplaced : SampleCount → FlatBlock → List ℕ → CanvasSample → CanvasSample → FlatBlock → Type 0
IsFlatReplaced count old masks first second new =
    (s p : ℕ) → s < count_of count → p < 64
    → flat_sample new s p ≡ chosen (slice_index masks s) p (flat_sample (with_samples old first second) s p) (flat_sample old s p)

-- The masks have all samples of all pixels.
abbrev pub HaveAll : SampleCount → List ℕ → Type 0
HaveAll count masks = (s p : ℕ) → s < count_of count → p < 64 → bit_at (slice_index masks s) p ≡ 1

-- The masks have all samples that are the first one.
abbrev pub HaveFirst : SampleCount → FlatBlock → List ℕ → Type 0
HaveFirst count flat masks =
    (s p : ℕ) → s < count_of count → p < 64 → bit_at (slice_index masks s) p ≢ 1 → bit_at (slice_index flat.masks s) p ≡ 1

-- The masks have all samples that are the second one.
abbrev pub HaveSecond : SampleCount → FlatBlock → List ℕ → Type 0
HaveSecond count flat masks =
    (s p : ℕ) → s < count_of count → p < 64 → bit_at (slice_index flat.masks s) p ≡ 1 → bit_at (slice_index masks s) p ≡ 1

-- One sample takes the places of both, and no third one is left beside it.
-- The masks have all that are the first one, or all that are the second one, or it is one of the two.
pub record StaysPair (count : SampleCount) (flat : FlatBlock) (masks : List ℕ) (first second : CanvasSample) : Type 0 where
  pub same : first ≡ second
  pub left : HaveFirst count flat masks ⊎ HaveSecond count flat masks ⊎ (flat.first ≡ first) ⊎ (flat.second ≡ second)

-- The block has one sample or two once others have taken places of its samples.
-- The masks have all of its samples, or one sample alone takes the places.
abbrev pub StaysFlat : SampleCount → FlatBlock → List ℕ → CanvasSample → CanvasSample → Type 0
StaysFlat count flat masks first second = HaveAll count masks ⊎ StaysPair count flat masks first second
