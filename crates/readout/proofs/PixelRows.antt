-- Rows of pixels by the tile rows in which they stand, and the samples of such a row.
use Rattle.std.proofs.Common.{◌≡◌, ℕ, ◌-◌, ◌/◌, ◌<◌, List, take, drop, refl, arith}
use Rattle.grid.specs.Samples.{count_of}
use Rattle.lanes.specs.declared.block_samples.BlockSamples.{BlockSamples}
use Rattle.canvas.specs.declared.canvas.Canvas.{Canvas}
use Rattle.readout.specs.declared.pixel_rows.PixelRow.{PixelRow}
use Rattle.readout.specs.declared.pixel_rows.PixelRows.{PixelRows}
use Rattle.canvas.specs.declared.tile_rows.TileRows.{TileRows}
use Rattle.canvas.specs.Layout.{stored}
use Rattle.readout.specs.Pixels.{IsPixelRow}
use Rattle.canvas.proofs.Places.{row_of}

-- a row of the rows that were found is one of those that were asked for
pub asked_row : (found : PixelRows) (rows : TileRows) (unit stride size index : ℕ) (r : PixelRow) → (found.tile_rows ≡ rows) × (found.unit ≡ unit) × (found.stride ≡ stride) × (found.size ≡ size)
    → IsPixelRow found.tile_rows.canvas found.tile_rows.first found.tile_rows.end found.unit found.stride found.size index r → IsPixelRow rows.canvas rows.first rows.end unit stride size index r
asked_row found rows unit stride size index r same is = rw (← same.0, ← same.1, ← same.2, ← same.3) is

-- its samples, in the planes of its tile row
pub samples_of_row : (c : Canvas) (first end unit stride size index : ℕ) (r : PixelRow) (xs : List BlockSamples) → IsPixelRow c first end unit stride size index r → (i s : ℕ) → i < c.width → s < count_of c.count
    → stored c (r.j / 64) (take (r.planes.end - r.planes.start) (drop r.planes.start xs)) i r.j s ≡ stored c first xs i r.j s
samples_of_row c first end unit stride size index r xs is i s l h =
    row_of c i r.j s (r.j / 64) first xs (r.planes.end - r.planes.start) r.planes.start refl (omega (arith, is.planes)) is.first_plane (omega (arith, l)) h
