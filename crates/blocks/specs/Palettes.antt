-- Blocks that have up to four samples.
use Rattle.std.specs.Prelude.{◌≡◌, ◌≢◌, ◌↔◌, ℕ, ◌+◌, ◌*◌, ◌/◌, ◌%◌, ◌<◌, List, slice_index, slice_index_or}
use Rattle.std.specs.Int.{bit_at}
use Rattle.grid.specs.Samples.{count_of}
use Rattle.grid.specs.declared.sample_count.SampleCount.{SampleCount}
use Rattle.shade.specs.declared.sample.CanvasSample.{CanvasSample}
use Rattle.lanes.specs.declared.block_samples.BlockSamples.{BlockSamples}
use Rattle.blocks.specs.declared.flat_block.FlatBlock.{FlatBlock}
use Rattle.blocks.specs.declared.palette.Palette.{Palette}
use Rattle.lanes.specs.Block.{stored_at}
use Rattle.blocks.specs.declared.way.Way.{Way}
use Rattle.blocks.specs.Layout.{block_in_tile, pixel_in_block, place_by, flat_place, slot_by, in_list, stored_in_tile, chosen}
use Rattle.blocks.specs.FlatBlocks.{flat_sample, with_samples}

-- The number of sample s of pixel p in the palette: the pixel's bit in the low mask, and twice that in the high one.
abbrev pub palette_number : Palette → ℕ → ℕ → ℕ
palette_number palette s p = bit_at (slice_index palette.low s) p + 2 * bit_at (slice_index palette.high s) p

-- The sample of this number.
abbrev pub sample_numbered : List CanvasSample → ℕ → CanvasSample
sample_numbered samples number = slice_index_or samples number (record { r = 0; g = 0; b = 0; alpha = 0; z = 0 })

-- Sample s of pixel p of the block.
abbrev pub palette_sample : Palette → ℕ → ℕ → CanvasSample
palette_sample palette s p = sample_numbered palette.samples (palette_number palette s p)

-- The samples of block k of a tile are these.
abbrev pub HasPalette : SampleCount → ℕ → Palette → List BlockSamples → Type 0
HasPalette count k palette samples =
    (i j s : ℕ) → s < count_of count → block_in_tile i j ≡ k → stored_in_tile count samples i j s ≡ palette_sample palette s (pixel_in_block i j)

-- Where the masks have a bit, the sample of the same number among `drawn` has taken the place of each sample.
abbrev pub IsPaletteReplaced : SampleCount → Palette → List ℕ → List CanvasSample → Palette → Type 0
IsPaletteReplaced count old masks drawn new =
    (s p : ℕ) → s < count_of count → p < 64
    → palette_sample new s p ≡ chosen (slice_index masks s) p (sample_numbered drawn (palette_number old s p)) (palette_sample old s p)

-- Of a block of one sample or two, `first` and `second` have taken the place of these where the masks have a bit.
abbrev pub IsFlatReplacedInFour : SampleCount → FlatBlock → List ℕ → CanvasSample → CanvasSample → Palette → Type 0
IsFlatReplacedInFour count old masks first second new =
    (s p : ℕ) → s < count_of count → p < 64
    → palette_sample new s p ≡ chosen (slice_index masks s) p (flat_sample (with_samples old first second) s p) (flat_sample old s p)

-- No palette has what is to be there then: it is more than four samples.
abbrev pub HasNoPalette : SampleCount → Palette → List ℕ → List CanvasSample → Type 0
HasNoPalette count old masks drawn = (new : Palette) → IsPaletteReplaced count old masks drawn new → ⊥

-- The mask has the bit of pixel p if its sample s has this number.
abbrev pub HasNumbers : Palette → ℕ → ℕ → ℕ → ℕ → Type 0
HasNumbers palette number s p mask = (bit_at mask p ≡ 1) ↔ (palette_number palette s p ≡ number)

-- The number among those of the samples of a pixel with which sample `number` of a flat block is stored.
abbrev pub place_of_number : SampleCount → ℕ → ℕ
place_of_number count number = number % 2 * (count_of count / 2) + number / 2 * (count_of count / 4)

-- None of the samples that have the first numbers is this one.
abbrev pub HasNoNumber : List CanvasSample → ℕ → CanvasSample → Type 0
HasNoNumber samples used sample = (n : ℕ) → n < used → sample_numbered samples n ≢ sample

-- Number n is the next one after those in use. It is given to a sample that none of them has.
pub record IsNewNumber (samples : List CanvasSample) (used : ℕ) (x : CanvasSample) (after : List CanvasSample) (n : ℕ) : Type 0 where
  pub last : n ≡ used
  pub sample : sample_numbered after n ≡ x
  pub others : HasNoNumber samples used x

-- Sample s of pixel p has one of the first numbers, and is this one.
abbrev pub IsGathered : Palette → ℕ → ℕ → ℕ → CanvasSample → Type 0
IsGathered palette used s p sample = (palette_number palette s p < used) × (palette_sample palette s p ≡ sample)

-- Those samples of the palette that are one of flat block k are in the block's places for them.
abbrev pub AreSamplesStored : SampleCount → ℕ → Palette → List BlockSamples → Type 0
AreSamplesStored count k palette samples =
    (s p : ℕ) → s < count_of count → p < 64
    → stored_at (in_list samples (flat_place count k (place_of_number count (palette_number palette s p)))) k ≡ palette_sample palette s p

-- What stands in a place of another block is unchanged, in whatever way that block is kept.
abbrev pub KeepsOtherPlaces : SampleCount → ℕ → List BlockSamples → List BlockSamples → Type 0
KeepsOtherPlaces count k old new =
    (way : Way) (m n p : ℕ) → m ≢ k → m < 64 → n < count_of count → p < 64
    → stored_at (in_list new (place_by count way m n)) (slot_by way m p) ≡ stored_at (in_list old (place_by count way m n)) (slot_by way m p)

-- The sample of this number is stored as one of flat block k. Those of other numbers, those of other blocks and the ways of all are unchanged.
pub record IsSampleStored (count : SampleCount) (k : ℕ) (samples : List CanvasSample) (number : ℕ) (old new : List BlockSamples) : Type 0 where
  pub stored : stored_at (in_list new (flat_place count k (place_of_number count number))) k ≡ sample_numbered samples number
  pub numbers : (m : ℕ) → m < 4 → m ≢ number → stored_at (in_list new (flat_place count k (place_of_number count m))) k ≡ stored_at (in_list old (flat_place count k (place_of_number count m))) k
  pub others : KeepsOtherPlaces count k old new
  pub first : in_list new 0 ≡ in_list old 0
