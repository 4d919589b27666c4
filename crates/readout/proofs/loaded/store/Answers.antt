use Rattle.std.proofs.Common.{◌≡◌, subst, ◌+◌, ℕ, slice_index, arith}
use Rattle.canvas.specs.Layout.{HasPixel}
use Rattle.readout.specs.Pixels.{pixel_bytes, entry_of}
use Rattle.readout.specs.Loaded.{coloured, IsIndexIn, AreStored}
use Rattle.readout.proofs.Changes.{changes_where}
use Rattle.readout.proofs.loaded.store.Goals as goal

pub returns-clause-stored : goal.returns-clause-stored
returns-clause-stored c =
    let self = c.args.piece.now.rows in
    let samples = c.args.piece.now.planes.now in
    let index : ℕ = c.args.s in
    subst (λ stride. AreStored self.canvas self.first self.end index c.args.bytes.now c.args.format stride c.args.alpha samples c.store_rows.new.samples) c.in_ok-rows.ensures.rows.2
    (changes_where self.canvas self.first self.end (λ i j s. HasPixel self.canvas self.first self.end i j × IsIndexIn index (index + 1) s) (λ i j s. HasPixel self.canvas self.first self.end i j × (s ≡ index))
    (λ i j s sample. coloured c.args.format c.args.alpha (λ k. slice_index c.args.bytes.now (entry_of self.first (pixel_bytes c.args.format) c.in_ok-rows.rows.stride i j + k)) sample) samples c.store_rows.new.samples
    (λ i j s h p. (p.0, record { from = omega (arith, p.1); below = omega (arith, p.1) }))
    (λ i j s h v. (v.0, (let from = v.1.from in let below = v.1.below in let same : s ≡ index = omega (arith, from, below) in same))) c.store_rows.ensures)
