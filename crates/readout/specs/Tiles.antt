-- The ids and the colours of the samples of one tile, one entry for each.
use Rattle.std.specs.Prelude.{◌≡◌, ◌⊎◌, ℕ, ◌+◌, ◌-◌, ◌*◌, ◌/◌, ◌%◌, ◌≤◌, ◌==◌, if◌then◌else◌, List, length, slice_index}
use Rattle.grid.specs.Samples.{count_of}
use Rattle.grid.specs.declared.sample_count.SampleCount.{SampleCount}
use Rattle.shade.specs.declared.sample.CanvasSample.{CanvasSample}
use Rattle.lanes.specs.declared.block_samples.BlockSamples.{BlockSamples}
use Rattle.canvas.specs.declared.canvas.Canvas.{Canvas}
use Rattle.readout.specs.declared.misfit.Misfit.{Misfit}
use Rattle.readout.specs.declared.misfit.Misfit.TheVariants as why
use Rattle.blocks.specs.Layout.{block_in_tile, id_of}
use Rattle.canvas.specs.Layout.{IsStoredIn, HasTile, stored}
use Rattle.readout.specs.Loaded.{AreChanged}
use Rattle.canvas.specs.Tiles.{IsUniform}

-- Pixel (i, j) is in the tile in a column and a row of tiles.
pub record IsInTile (column row : ℕ) (i j : ℕ) : Type 0 where
  pub across : i / 64 ≡ column
  pub down : j / 64 ≡ row

-- How many entries a tile has: one for each sample.
abbrev pub tile_entries : SampleCount → ℕ
tile_entries count = 4096 * count_of count

-- The entry of sample s of pixel (i, j) among those of its tile. Blocks of 8 by 8 pixels lie row by row, in a block sample index by sample
-- index, and of each the pixels row by row.
abbrev pub entry_in_tile : SampleCount → ℕ → ℕ → ℕ → ℕ
entry_in_tile count i j s = (block_in_tile i j * count_of count + s) * 64 + (8 * (j % 8) + i % 8)

-- What the entries say of sample s of pixel (i, j): one entry speaks for all samples of the tile.
abbrev pub said_of : SampleCount → List ℕ → ℕ → ℕ → ℕ → ℕ
said_of count entries i j s = slice_index entries (if length entries == 1 then 0 else entry_in_tile count i j s)

-- The entries fit the tile: these tile rows have it, and there is an entry for each of its samples.
abbrev pub FitTile : Canvas → ℕ → ℕ → ℕ → ℕ → ℕ → Type 0
FitTile c first end column row size = HasTile c first end column row × (tile_entries c.count ≤ size)

-- The entries fit the tile, or one stands for all of them.
abbrev pub FitTileOrOne : Canvas → ℕ → ℕ → ℕ → ℕ → ℕ → Type 0
FitTileOrOne c first end column row size = HasTile c first end column row × ((size ≡ 1) ⊎ (size ≡ tile_entries c.count))

-- What does not fit, if one of the two does not: the tile first, and then `Fit`.
abbrev pub IsTileMisfit : Canvas → ℕ → ℕ → ℕ → ℕ → Type 0 → Misfit → Type 0
IsTileMisfit c first end column row Fit misfit =
    ((misfit ≡ why.Tile) × ¬ HasTile c first end column row) ⊎ ((misfit ≡ why.Pixels) × HasTile c first end column row × ¬ Fit)

-- The entries are the ids of the samples of a tile.
abbrev pub AreTileIds : Canvas → ℕ → ℕ → ℕ → ℕ → List BlockSamples → List ℕ → Type 0
AreTileIds c first end column row samples ids =
    (i j s : ℕ) → IsStoredIn c first end i j s → IsInTile column row i j → said_of c.count ids i j s ≡ id_of (stored c first samples i j s)

-- The number of ids that are written of a tile: one if it is uniform, else one for each sample.
abbrev pub IsIdCount : Canvas → ℕ → ℕ → ℕ → List BlockSamples → ℕ → Type 0
IsIdCount c first column row samples many =
    ((many ≡ 1) × IsUniform c first column row samples) ⊎ ((many ≡ tile_entries c.count) × ¬ IsUniform c first column row samples)

-- The sample in the colour of this number, red its lowest byte. Its depth and its alpha are unchanged, and what is above the third byte is not read.
abbrev pub with_colour : ℕ → CanvasSample → CanvasSample
with_colour n old = record { r = n % 256; g = n / 256 % 256; b = n / 65536 % 256; alpha = old.alpha; z = old.z }

-- The samples of a tile have the colours that the entries say, and the depths that they had. All other samples are unchanged.
abbrev pub AreTileColours : Canvas → ℕ → ℕ → ℕ → ℕ → List ℕ → List BlockSamples → List BlockSamples → Type 0
AreTileColours c first end column row colours old new =
    AreChanged c first end (λ i j s. IsInTile column row i j) (λ i j s sample. with_colour (said_of c.count colours i j s) sample) old new
