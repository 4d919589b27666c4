-- Parts of a tile and of tile rows at whose samples a fragment is drawn, by masks.
use Rattle.std.specs.Prelude.{false, ◌≡◌, ◌≢◌, ℕ, ◌+◌, ◌-◌, ◌*◌, ◌/◌, ◌%◌, ◌^◌, ◌<◌, ◌≤◌, List, slice_index, IsBitSet}
use Rattle.std.specs.Int.{bit_at}
use Rattle.grid.specs.Samples.{count_of}
use Rattle.grid.specs.declared.sample_count.SampleCount.{SampleCount}
use Rattle.shade.specs.declared.sample.CanvasSample.{CanvasSample}
use Rattle.shade.specs.declared.state.State.{State}
use Rattle.lanes.specs.declared.block_samples.BlockSamples.{BlockSamples}
use Rattle.lanes.specs.Fragment.{FlatFragment, Takes}
use Rattle.polygons.specs.Cells.{mask_at}
use Rattle.raster.specs.declared.tile.Tile.{Tile}
use Rattle.raster.specs.Drawing.{Allows, IsInSquare}
use Rattle.raster.specs.Region.{HoldsTile}
use Rattle.raster.specs.Samples.{IsSampleOf}
use Rattle.canvas.specs.declared.canvas.Canvas.{Canvas}
use Rattle.blocks.specs.declared.flat_block.FlatBlock.{FlatBlock}
use Rattle.blocks.specs.declared.palette.Palette.{Palette}
use Rattle.blocks.specs.declared.way.Way.TheVariants.{FlatFour}
use Rattle.blocks.specs.Layout.{block_in_tile, in_list, is_plain, masks_place, more_place, pixel_in_block, place_in_tile, stored_in_tile, way_in_tile}
use Rattle.canvas.specs.Layout.{IsStoredIn, stored}
use Rattle.lanes.specs.Block.{stored_at}
use Rattle.blocks.specs.FlatBlocks.{IsFlatReplaced}
use Rattle.blocks.specs.Palettes.{sample_numbered, IsPaletteReplaced}
use Rattle.block_fills.specs.declared.masks.Masks.{Masks}

-- The fragment is drawn at those samples of the tile that are in this part, and the others are unchanged.
pub record TilePaints (f : FlatFragment) (tile : Tile) (part : ℕ → ℕ → ℕ → Type 0) (old new : List BlockSamples) : Type 0 where
  pub met : (row column s : ℕ) → IsSampleOf tile row column s → part row column s
      → Takes f (stored_in_tile tile.count old column row s) (stored_in_tile tile.count new column row s)
  pub missed : (row column s : ℕ) → IsSampleOf tile row column s → ¬ part row column s → stored_in_tile tile.count new column row s ≡ stored_in_tile tile.count old column row s

-- What the fragment makes of a sample of the tile's new planes, it makes of that of its old planes too.
abbrev pub DrawsAlike : FlatFragment → SampleCount → List BlockSamples → List BlockSamples → Type 0
DrawsAlike f count old new =
    (i j s : ℕ) (made : CanvasSample) → s < count_of count
    → Takes f (stored_in_tile count new i j s) made → Takes f (stored_in_tile count old i j s) made

-- The samples of all blocks of the tile but block k are unchanged.
abbrev pub KeepsOtherBlocks : ℕ → SampleCount → List BlockSamples → List BlockSamples → Type 0
KeepsOtherBlocks k count old new = (i j s : ℕ) → s < count_of count → block_in_tile i j ≢ k → stored_in_tile count new i j s ≡ stored_in_tile count old i j s

-- The fragment is drawn at those samples of the tile rows that are in this part, and the others are unchanged.
pub record RowsPaint (f : FlatFragment) (c : Canvas) (first end : ℕ) (part : ℕ → ℕ → ℕ → Type 0) (old new : List BlockSamples) : Type 0 where
  pub met : (i j s : ℕ) → IsStoredIn c first end i j s → part i j s → Takes f (stored c first old i j s) (stored c first new i j s)
  pub missed : (i j s : ℕ) → IsStoredIn c first end i j s → ¬ part i j s → stored c first new i j s ≡ stored c first old i j s

-- The mask of sample s of the block in a column and a row of blocks, among the masks of a tile row.
abbrev pub block_mask : Masks → ℕ → ℕ → ℕ → ℕ
block_mask masks column row s = mask_at masks.flags.now masks.each column row s

-- The state lets the sample of the tile be drawn.
abbrev pub IsAllowed : State → Tile → ℕ → ℕ → ℕ → Type 0
IsAllowed state tile row column s = Allows state (8 * tile.bx + column) (8 * tile.by + row) s

-- The state lets each sample of the tile be drawn. Its pixels are in the scissor, and the bits of all samples of a pixel are set in the
-- sample mask.
pub record AllowsTile (state : State) (tile : Tile) : Type 0 where
  pub in_scissor : HoldsTile state.scissor tile
  pub in_mask : (s : ℕ) → s < count_of tile.count → state.sample_mask / 2 ^ s % 2 ≡ 1

-- The number of block (bx, by) among the 64 of its tile, row by row.
abbrev pub number_in_tile : Tile → ℕ → ℕ → ℕ
number_in_tile tile bx by = (by - tile.by) * 8 + (bx - tile.bx)

-- The sample is kept in the plane of this index among those of the tile.
abbrev pub IsKeptAt : SampleCount → List BlockSamples → ℕ → ℕ → ℕ → ℕ → Type 0
IsKeptAt count samples place row column s = place_in_tile count (in_list samples) column row s ≡ place

-- The plane of this index among those of the tile has neither the masks of a block nor its further masks.
abbrev pub HasNoMasks : SampleCount → List BlockSamples → ℕ → Type 0
HasNoMasks count samples place =
    (k : ℕ) → k < 64
    → (is_plain (way_in_tile samples k) ≡ false → masks_place count k ≢ place) × (way_in_tile samples k ≡ FlatFour → more_place count k ≢ place)

-- All planes of the tile but the one of this index are unchanged.
abbrev pub KeepsPlanesBut : ℕ → List BlockSamples → List BlockSamples → Type 0
KeepsPlanesBut place old new = (n : ℕ) → n ≢ place → in_list new n ≡ in_list old n

-- Each sample of the plane takes the fragment.
abbrev pub DrawsPlane : FlatFragment → BlockSamples → BlockSamples → Type 0
DrawsPlane f old new = (p : ℕ) → p < 64 → Takes f (stored_at old p) (stored_at new p)

-- The fragment is drawn at those samples of a block that are in the masks. The block has one sample or two before and afterwards.
abbrev pub IsFlatDrawn : FlatFragment → SampleCount → FlatBlock → List ℕ → FlatBlock → Type 0
IsFlatDrawn f count old words new =
    (first second : CanvasSample) × Takes f old.first first × Takes f old.second second × IsFlatReplaced count old words first second new

-- The fragment is drawn at those samples of a block that are in the masks. The block has up to four samples before and afterwards.
abbrev pub IsPaletteDrawn : FlatFragment → SampleCount → Palette → List ℕ → Palette → Type 0
IsPaletteDrawn f count old words new =
    (drawn : List CanvasSample) × ((number : ℕ) → number < 4 → Takes f (sample_numbered old.samples number) (sample_numbered drawn number)) × IsPaletteReplaced count old words drawn new

-- The sample is in block (bx, by) and is drawn there. Its bit is set in column k of the masks, and the state lets it be drawn.
pub record IsInBlock (state : State) (tile : Tile) (bx by : ℕ) (masks : Masks) (k : ℕ) (row column s : ℕ) : Type 0 where
  pub square : IsInSquare tile bx by 8 row column s
  pub in_masks : IsBitSet (block_mask masks k (row / 8) s) (8 * (row % 8) + column % 8)
  pub allowed : IsAllowed state tile row column s

-- The sample is in block (bx, by), and its bit is set in the mask of its index.
pub record IsInWords (tile : Tile) (bx by : ℕ) (words : List ℕ) (row column s : ℕ) : Type 0 where
  pub square : IsInSquare tile bx by 8 row column s
  pub in_words : bit_at (slice_index words s) (pixel_in_block column row) ≡ 1

-- The sample is in the first n rows of blocks of column `bx` of blocks and is drawn there. Its bit is set in column k of the masks, and
-- the state lets it be drawn.
pub record IsInColumn (state : State) (tile : Tile) (bx n : ℕ) (masks : Masks) (k : ℕ) (row column s : ℕ) : Type 0 where
  pub left : 8 * bx ≤ 8 * tile.bx + column
  pub right : 8 * tile.bx + column < 8 * bx + 8
  pub before : row < 8 * n
  pub in_masks : IsBitSet (block_mask masks k (row / 8) s) (8 * (row % 8) + column % 8)
  pub allowed : IsAllowed state tile row column s

-- The sample is in the first n columns of blocks, from column `first` on, and is drawn there. Its bit is set in the masks, and the state
-- lets it be drawn.
pub record IsFlagged (state : State) (first n : ℕ) (masks : Masks) (i j s : ℕ) : Type 0 where
  pub left : 8 * first ≤ i
  pub right : i < 8 * (first + n)
  pub in_masks : IsBitSet (block_mask masks (i / 8 - first) (j % 64 / 8) s) (8 * (j % 8) + i % 8)
  pub allowed : Allows state i j s
