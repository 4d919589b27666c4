use Rattle.std.proofs.Common.{subst, ◌+◌, slice_index, arith}
use Rattle.canvas.specs.Layout.{HasPixel}
use Rattle.readout.specs.Pixels.{pixel_bytes, entry_of}
use Rattle.readout.specs.Loaded.{coloured, IsIndexIn, AreLoaded}
use Rattle.readout.proofs.Changes.{changes_where}
use Rattle.readout.proofs.loaded.load.Goals as goal

pub returns-clause-loaded : goal.returns-clause-loaded
returns-clause-loaded c =
    let self = c.args.piece.now.rows in
    let samples = c.args.piece.now.planes.now in
    let all = c.count.result in
    subst (λ stride. AreLoaded self.canvas self.first self.end c.args.bytes.now c.args.format stride c.args.alpha samples c.store_rows.new.samples) c.in_ok-rows.ensures.rows.2
    (changes_where self.canvas self.first self.end (λ i j s. HasPixel self.canvas self.first self.end i j × IsIndexIn 0 all s) (λ i j s. HasPixel self.canvas self.first self.end i j)
    (λ i j s sample. coloured c.args.format c.args.alpha (λ k. slice_index c.args.bytes.now (entry_of self.first (pixel_bytes c.args.format) c.in_ok-rows.rows.stride i j + k)) sample) samples c.store_rows.new.samples
    (λ i j s h p. (p, (let index = h.is_sample in record { from = omega arith; below = omega (arith, index, c.count.ensures) }))) (λ i j s h v. v.0) c.store_rows.ensures)
