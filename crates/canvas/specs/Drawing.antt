-- What triangles make of the samples of a picture.
use Rattle.std.specs.Prelude.{◌≡◌, ℕ, ◌+◌, ◌*◌, List}
use Rattle.shade.specs.declared.sample.CanvasSample.{CanvasSample}
use Rattle.lanes.specs.declared.block_samples.BlockSamples.{BlockSamples}
use Rattle.shade.specs.declared.placed.Placed.{Placed}
use Rattle.shade.specs.Canvas.{CanvasEnds}
use Rattle.raster.specs.declared.tile.Tile.{Tile}
use Rattle.raster.specs.Samples.{IsSampleOf, stored as in_tile}
use Rattle.canvas.specs.declared.canvas.Canvas.{Canvas}
use Rattle.blocks.specs.Layout.{stored_in_tile}
use Rattle.canvas.specs.Layout.{IsStoredIn, stored}

-- Each sample of the tile rows from `first` to before `end` is this one.
abbrev pub AreCleared : Canvas → ℕ → ℕ → CanvasSample → List BlockSamples → Type 0
AreCleared c first end sample samples = (i j s : ℕ) → IsStoredIn c first end i j s → stored c first samples i j s ≡ sample

-- Each sample of these tile rows ends as what the triangles make, one after another, of what was stored there.
abbrev pub HaveEnds : List Placed → Canvas → ℕ → ℕ → List BlockSamples → List BlockSamples → Type 0
HaveEnds ts c first end old new =
    (i j s : ℕ) → IsStoredIn c first end i j s → CanvasEnds ts c.count i j s (stored c first old i j s) (stored c first new i j s)

-- Each sample of the tile ends as what the triangles make, one after another, of what was stored in the tile's planes.
abbrev pub TileEnds : List Placed → Tile → List BlockSamples → List BlockSamples → Type 0
TileEnds ts tile old new =
    (row column s : ℕ) → IsSampleOf tile row column s
    → CanvasEnds ts tile.count (8 * tile.bx + column) (8 * tile.by + row) s (stored_in_tile tile.count old column row s) (stored_in_tile tile.count new column row s)

-- Each sample of the tile's own blocks ends as what the triangles make, one after another, of what was stored there.
abbrev pub TileHasEnds : List Placed → Tile → List BlockSamples → List BlockSamples → Type 0
TileHasEnds ts tile old new =
    (row column s : ℕ) → IsSampleOf tile row column s
    → CanvasEnds ts tile.count (8 * tile.bx + column) (8 * tile.by + row) s (in_tile tile old row column s) (in_tile tile new row column s)
