use Rattle.std.proofs.Common.{◌≡◌, ◌+◌, ◌*◌, ◌/◌, ◌<◌, slice_index}
use Rattle.readout.specs.Pixels.{pixel_bytes}
use Rattle.readout.specs.Loaded.{coloured, IsIndexIn, AreChanged}
use Rattle.readout.proofs.loaded.store_row.Given as goal

abbrev pub invariant-loop-i : goal.invariant-loop-i
invariant-loop-i l =
    AreChanged l.canvas (l.j / 64) (l.j / 64 + 1) (λ column row s. (column < l.i) × (row ≡ l.j) × IsIndexIn l.indices.first l.indices.end s) (λ column row s sample. coloured l.fn.format l.indices.alpha (λ k. slice_index l.bytes (column * pixel_bytes l.fn.format + k)) sample) l.fn.samples l.samples
