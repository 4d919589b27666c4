use Rattle.std.proofs.Common.{◌+◌, ◌*◌, ◌<◌, slice_index}
use Rattle.canvas.specs.Layout.{HasPixel}
use Rattle.readout.specs.Pixels.{pixel_bytes, entry_of}
use Rattle.readout.specs.Loaded.{coloured, IsIndexIn, AreChanged}
use Rattle.readout.proofs.loaded.store_rows.Given as goal

abbrev pub invariant-loop-index : goal.invariant-loop-index
invariant-loop-index l =
    AreChanged l.tile_rows.canvas l.tile_rows.first l.tile_rows.end (λ i j s. HasPixel l.tile_rows.canvas l.tile_rows.first l.tile_rows.end i j × IsIndexIn l.indices.first l.indices.end s × (j < 64 * l.tile_rows.first + l.index))
    (λ i j s sample. coloured l.fn.format l.fn.indices.alpha (λ k. slice_index l.bytes (entry_of l.tile_rows.first (pixel_bytes l.fn.format) l.rows.stride i j + k)) sample) l.fn.samples l.samples
