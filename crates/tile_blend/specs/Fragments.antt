-- Fragments in the caller's memory for the samples of one tile.
use Rattle.std.specs.Prelude.{◌≡◌, ◌⊎◌, ℕ, ◌+◌, ◌*◌, ◌/◌, ◌%◌, ◌==◌, if◌then◌else◌, List, length, slice_index, IsBitSet}
use Rattle.grid.specs.Samples.{count_of}
use Rattle.grid.specs.declared.sample_count.SampleCount.{SampleCount}
use Rattle.shade.specs.declared.sample.CanvasSample.{CanvasSample}
use Rattle.shade.specs.declared.sample.Shaded.{Shaded}
use Rattle.shade.specs.declared.sample.Merge.{Merge}
use Rattle.shade.specs.Canvas.{IsCanvasApplied}
use Rattle.lanes.specs.declared.block_samples.BlockSamples.{BlockSamples}
use Rattle.blocks.specs.Layout.{block_in_tile, pixel_in_block}
use Rattle.canvas.specs.declared.canvas.Canvas.{Canvas}
use Rattle.canvas.specs.Layout.{IsStoredIn, HasTile, stored}
use Rattle.readout.specs.Tiles.{IsInTile, tile_entries, entry_in_tile}

-- How many masks a tile has: one for each sample index of each block.
abbrev pub tile_masks : SampleCount → ℕ
tile_masks count = 64 * count_of count

-- The mask of sample index s of the block of pixel (i, j) among those of its tile. Blocks lie row by row, and in a block the masks lie
-- sample index by sample index.
abbrev pub mask_in_tile : SampleCount → ℕ → ℕ → ℕ → ℕ
mask_in_tile count i j s = block_in_tile i j * count_of count + s

-- Entry n, or the one entry that stands for all.
abbrev pub entry_or_one : List ℕ → ℕ → ℕ
entry_or_one entries n = slice_index entries (if length entries == 1 then 0 else n)

-- The fragment of a colour, red its lowest byte and alpha its highest one, and a depth.
abbrev pub fragment_in : ℕ → ℕ → Shaded
fragment_in colour depth = record { r = colour % 256; g = colour / 256 % 256; b = colour / 65536 % 256; a = colour / 16777216 % 256; z = depth }

-- The fragment of entry n.
abbrev pub fragment_at : List ℕ → List ℕ → ℕ → Shaded
fragment_at colours depths n = fragment_in (entry_or_one colours n) (entry_or_one depths n)

-- The masks keep sample s of pixel (i, j): the pixel's bit is set.
abbrev pub IsInMasks : SampleCount → List ℕ → ℕ → ℕ → ℕ → Type 0
IsInMasks count kept i j s = IsBitSet (entry_or_one kept (mask_in_tile count i j s)) (pixel_in_block i j)

-- Of an array of entries there is one for each sample or mask, or one for all.
abbrev pub IsEachOrOne : ℕ → ℕ → Type 0
IsEachOrOne many size = (size ≡ 1) ⊎ (size ≡ many)

-- The sizes of arrays of colours, depths and masks are those of a tile, or 1 where one stands for all.
pub record AreFragments (count : SampleCount) (colours depths kept : ℕ) : Type 0 where
  pub have_colours : IsEachOrOne (tile_entries count) colours
  pub have_depths : IsEachOrOne (tile_entries count) depths
  pub have_masks : IsEachOrOne (tile_masks count) kept

-- The fragments fit the tile: these tile rows have it, and the arrays have as many entries as it.
abbrev pub FitFragments : Canvas → ℕ → ℕ → ℕ → ℕ → ℕ → ℕ → ℕ → Type 0
FitFragments c first end column row colours depths kept = HasTile c first end column row × AreFragments c.count colours depths kept

-- What a sample becomes: it takes the fragment if it is kept, and else is unchanged. It takes it by the depth test, the write mask and the
-- blending, as a sample does that a triangle covers (Direct3D 11, output merger).
pub record TakesIf (Kept : Type 0) (m : Merge) (f : Shaded) (old new : CanvasSample) : Type 0 where
  pub taken : Kept → IsCanvasApplied m f old new
  pub left : ¬ Kept → new ≡ old

-- The samples of a tile become what R says of them, and all other samples are unchanged.
pub record IsTileChanged (c : Canvas) (first end column row : ℕ) (R : ℕ → ℕ → ℕ → CanvasSample → CanvasSample → Type 0) (old new : List BlockSamples) : Type 0 where
  pub changed : (i j s : ℕ) → IsStoredIn c first end i j s → IsInTile column row i j → R i j s (stored c first old i j s) (stored c first new i j s)
  pub others : (i j s : ℕ) → IsStoredIn c first end i j s → ¬ IsInTile column row i j → stored c first new i j s ≡ stored c first old i j s

-- What the fragments make of sample s of pixel (i, j): it takes its own if it is kept.
abbrev pub TakesKept : SampleCount → Merge → List ℕ → List ℕ → List ℕ → ℕ → ℕ → ℕ → CanvasSample → CanvasSample → Type 0
TakesKept count m colours depths kept i j s = TakesIf (IsInMasks count kept i j s) m (fragment_at colours depths (entry_in_tile count i j s))

-- Each kept sample of a tile takes its fragment, and all other samples are unchanged.
abbrev pub IsTileBlended : Canvas → ℕ → ℕ → ℕ → ℕ → Merge → List ℕ → List ℕ → List ℕ → List BlockSamples → List BlockSamples → Type 0
IsTileBlended c first end column row m colours depths kept = IsTileChanged c first end column row (TakesKept c.count m colours depths kept)
