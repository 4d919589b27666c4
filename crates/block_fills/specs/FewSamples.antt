-- Blocks that are not drawn as ones of a few samples.
use Rattle.std.specs.Prelude.{◌≡◌, ◌≢◌, ◌⊎◌, ℕ, ◌-◌, ◌<◌, List, slice_index}
use Rattle.grid.specs.Samples.{count_of}
use Rattle.grid.specs.declared.sample_count.SampleCount.{SampleCount}
use Rattle.grid.specs.declared.sample_count.SampleCount.TheVariants.{Four}
use Rattle.shade.specs.declared.sample.CanvasSample.{CanvasSample}
use Rattle.lanes.specs.declared.block_samples.BlockSamples.{BlockSamples}
use Rattle.lanes.specs.Fragment.{FlatFragment, Takes}
use Rattle.raster.specs.declared.tile.Tile.{Tile}
use Rattle.blocks.specs.declared.flat_block.FlatBlock.{FlatBlock}
use Rattle.blocks.specs.declared.palette.Palette.{Palette}
use Rattle.blocks.specs.declared.way.Way.TheVariants.{Cleared, Single, Flat, FlatPair, FlatFour}
use Rattle.blocks.specs.Layout.{way_in_tile}
use Rattle.blocks.specs.FlatBlocks.{HasFlat, HasOne, StaysFlat}
use Rattle.blocks.specs.Palettes.{sample_numbered, HasPalette, HasNoPalette}
use Rattle.block_fills.specs.declared.masks.Masks.{Masks}
use Rattle.block_fills.specs.Parts.{block_mask, number_in_tile, TilePaints}

-- A block of one sample or two is known to stay so once the fragment is drawn at those samples that are in the masks.
abbrev pub StaysFlatDrawn : FlatFragment → SampleCount → FlatBlock → List ℕ → Type 0
StaysFlatDrawn f count flat words =
    (first second : CanvasSample) × Takes f flat.first first × Takes f flat.second second × StaysFlat count flat words first second

-- A block of up to four samples has more once the fragment is drawn at those that are in the masks.
abbrev pub LeavesNoPalette : FlatFragment → SampleCount → Palette → List ℕ → Type 0
LeavesNoPalette f count old words =
    (drawn : List CanvasSample) × ((number : ℕ) → number < 4 → Takes f (sample_numbered old.samples number) (sample_numbered drawn number)) × HasNoPalette count old words drawn

-- Block k of a tile is kept neither in one sample nor in two, nor in one plane whose samples are all the same.
pub record IsNotKeptFlat (count : SampleCount) (k : ℕ) (samples : List BlockSamples) : Type 0 where
  pub flat : way_in_tile samples k ≢ Flat
  pub pair : way_in_tile samples k ≢ FlatPair
  pub one : (sample : CanvasSample) → HasOne count k sample samples → (way_in_tile samples k ≢ Cleared) × (way_in_tile samples k ≢ Single)

-- Block k of a tile is not kept in up to four samples, nor in one plane whose samples are all the same.
pub record IsNotKeptInFour (count : SampleCount) (k : ℕ) (samples : List BlockSamples) : Type 0 where
  pub flat : IsNotKeptFlat count k samples
  pub four : way_in_tile samples k ≢ FlatFour

-- Block (bx, by) of the tile has one sample or two, and is not known to stay so where the fragment is drawn.
-- It is drawn at those samples whose bits are set in column k of the masks.
pub record DoesNotStayFlat (f : FlatFragment) (tile : Tile) (bx by : ℕ) (masks : Masks) (k : ℕ) (samples : List BlockSamples) : Type 0 where
  pub flat : FlatBlock
  pub words : List ℕ
  pub has : HasFlat tile.count (number_in_tile tile bx by) flat samples
  pub are : (s : ℕ) → s < count_of tile.count → slice_index words s ≡ block_mask masks k (by - tile.by) s
  pub changes : ¬ StaysFlatDrawn f tile.count flat words

-- Block (bx, by) of the tile is not kept in one sample or two, or is not known to stay so where the fragment is drawn.
abbrev pub IsNotDrawnFlat : FlatFragment → Tile → ℕ → ℕ → Masks → ℕ → List BlockSamples → Type 0
IsNotDrawnFlat f tile bx by masks k samples =
    IsNotKeptFlat tile.count (number_in_tile tile bx by) samples ⊎ DoesNotStayFlat f tile bx by masks k samples

-- Block k of the tile has more than four samples once the fragment is drawn at this part of the tile.
abbrev pub LeavesManySamples : FlatFragment → Tile → (ℕ → ℕ → ℕ → Type 0) → ℕ → List BlockSamples → Type 0
LeavesManySamples f tile part k old =
    (new : List BlockSamples) (palette : Palette) → TilePaints f tile part old new → HasPalette tile.count k palette new → ⊥

-- Block k of a tile is not kept in up to four samples, or has more once the fragment is drawn at this part of it.
abbrev pub IsNotDrawnInFour : FlatFragment → Tile → (ℕ → ℕ → ℕ → Type 0) → ℕ → List BlockSamples → Type 0
IsNotDrawnInFour f tile part k old = IsNotKeptInFour tile.count k old ⊎ LeavesManySamples f tile part k old

-- A pixel has four samples, and there are fewer than four columns of masks. Blocks are not tried in up to four samples for such small
-- polygons.
abbrev pub IsSmallOfFour : Masks → Type 0
IsSmallOfFour masks = (masks.count ≡ Four) × (masks.columns < 4)
