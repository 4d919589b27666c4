use Rattle.std.proofs.Common.{Bool, ◌≡◌, ◌∙◌, inl, inr, refl, ap, ◌+◌, ◌-◌, ◌*◌, ◌/◌, ◌<◌, ◌≤◌, ℕ, List, length, take, drop, slice_index, arith}
use Rattle.std.proofs.lemmas.Bool.{cases_lt}
use Rattle.shade.specs.declared.sample.CanvasSample.{CanvasSample}
use Rattle.canvas.specs.declared.canvas.Canvas.{Canvas}
use Rattle.readout.specs.declared.format.Format.{Format}
use Rattle.canvas.specs.Layout.{HasPixel}
use Rattle.readout.specs.Pixels.{IsPixelRow, pixel_bytes, entry_of, shown_rows}
use Rattle.readout.specs.Loaded.{coloured, IsIndexIn, AreChanged}
use Rattle.blocks.proofs.Cut.{put, part_of}
use Rattle.readout.proofs.Units.{below_unit}
use Rattle.readout.proofs.Changes.{no_change, joined_changes, coloured_same, changes_where, one_row_changed}
use Rattle.readout.proofs.PixelRows.{asked_row}
use Rattle.readout.proofs.loaded.store_rows.Goals as goal

-- the samples of the pixels above row n of the picture
abbrev Above : Canvas → ℕ → ℕ → ℕ → ℕ → ℕ → ℕ → ℕ → ℕ → Type 0
Above canvas first end from to n i j s = HasPixel canvas first end i j × IsIndexIn from to s × (j < n)

-- those of row n
abbrev InRow : Canvas → ℕ → ℕ → ℕ → ℕ → ℕ → ℕ → Type 0
InRow canvas from to n i j s = (i < canvas.width) × (j ≡ n) × IsIndexIn from to s

-- a sample in the colour of the bytes of its pixel
abbrev in_colour : ℕ → Format → Bool → ℕ → List ℕ → ℕ → ℕ → ℕ → CanvasSample → CanvasSample
in_colour first format too stride bytes i j s sample = coloured format too (λ k. slice_index bytes (entry_of first (pixel_bytes format) stride i j + k)) sample

pub loop-index-init : goal.loop-index-init
loop-index-init c =
    let self = c.args.tile_rows.now in
    no_change self.canvas self.first self.end (Above self.canvas self.first self.end c.args.indices.first c.args.indices.end (64 * self.first + 0)) (in_colour self.first c.args.format c.args.indices.alpha c.args.rows.now.stride c.args.bytes.now) c.args.samples.now
    (λ i j s v. let from = v.0.from in omega (arith, from, v.2))

pub loop-index-preserved : goal.loop-index-preserved
loop-index-preserved c =
    let self = c.args.tile_rows.now in
    let canvas = self.canvas in
    let format = c.args.format in
    let bytes : List ℕ = c.args.bytes.now in
    let w : ℕ = pixel_bytes format in
    let rows = c.args.rows.now in
    let stride : ℕ = rows.stride in
    let index : ℕ = c.loop-index.index in
    let row = c.row-row.result in
    let asked = c.requires.rows in
    let is : IsPixelRow canvas self.first self.end w stride (length bytes) index row =
    asked_row rows self w stride (length bytes) index row (asked.0, asked.1, refl, asked.2) c.row-row.ensures in
    let a : ℕ = row.entries.start in
    let n : ℕ = row.entries.end - a in
    let from : ℕ = row.planes.start in
    let part : ℕ = row.planes.end - from in
    let least : ℕ = c.args.indices.first in
    let most : ℕ = c.args.indices.end in
    let pixel : ℕ → ℕ → ℕ → CanvasSample → CanvasSample = λ i j s sample. coloured format c.args.indices.alpha (λ k. slice_index (take n (drop a bytes)) (i * w + k)) sample in
    let changed : AreChanged canvas self.first self.end (InRow canvas least most row.j) pixel c.loop-index.samples (put c.loop-index.samples c.store_row.new.samples from part) =
    one_row_changed canvas c.loop-index.samples c.store_row.new.samples part from (omega (arith, is, c.requires.samples, c.loop-index.auto.samples)) (omega (arith, c.store_row.auto.samples, is, c.requires.samples, c.loop-index.auto.samples))
    self.first self.end (row.j / 64) (InRow canvas least most row.j) pixel (omega (arith, is.line)) (omega (arith, is.planes)) is.first_plane
    (λ i j s v. ap (λ m. m / 64) v.1) c.store_row.ensures in
    joined_changes canvas self.first self.end (Above canvas self.first self.end least most (64 * self.first + index)) (InRow canvas least most row.j) (Above canvas self.first self.end least most (64 * self.first + (index + 1)))
    (in_colour self.first format c.args.indices.alpha stride bytes) pixel (in_colour self.first format c.args.indices.alpha stride bytes)
    c.args.samples.now c.loop-index.samples (put c.loop-index.samples c.store_row.new.samples from part) c.loop-index.invariant changed
    (λ i j s v w. omega (arith, v.2, w.1, is.line))
    (λ i j s r. elim (cases_lt j (64 * self.first + index)) [ inl less ↦ inl (r.0, r.1, less) | inr more ↦ let column = r.0.column in inr (column, (let same : j ≡ row.j = omega (arith, more, r.2, is.line) in same), r.1) ])
    (λ i j s v. (v.0, v.1, (let below : j < 64 * self.first + (index + 1) = omega (arith, v.2) in below)))
    (λ i j s v. (record { column = v.0; row = omega (arith, v.1, is.shown); from = omega (arith, v.1, is.line); below = omega (arith, v.1, is.below) }, v.2, (let below : j < 64 * self.first + (index + 1) = omega (arith, v.1, is.line) in below)))
    (λ i j s x v. refl)
    (λ i j s x v.
    coloured_same format c.args.indices.alpha _ _ x
    (λ k small.
    let start : (j - 64 * self.first) * stride ≡ (row.j - 64 * self.first) * stride = ap (λ m. (m - 64 * self.first) * stride) v.1 in
    let place : a + (i * w + k) ≡ entry_of self.first w stride i j + k = omega (arith, start, is.first_entry) in
    part_of bytes a n 0 (i * w + k) (omega (arith, is.entries, below_unit w i k canvas.width v.0 small)) ∙ ap (λ m. slice_index bytes m) place))

pub returns : goal.returns
returns c =
    let self = c.args.tile_rows.now in
    let canvas = self.canvas in
    let least : ℕ = c.args.indices.first in
    let most : ℕ = c.args.indices.end in
    let past : shown_rows canvas self.first self.end ≤ c.loop-index.index = omega (arith, c.loop-index-test.false, c.count-index-end.ensures, ap (λ t. shown_rows t.canvas t.first t.end) c.requires.rows.0) in
    changes_where canvas self.first self.end (Above canvas self.first self.end least most (64 * self.first + c.loop-index.index)) (λ i j s. HasPixel canvas self.first self.end i j × IsIndexIn least most s) (in_colour self.first c.args.format c.args.indices.alpha c.args.rows.now.stride c.args.bytes.now) c.args.samples.now c.loop-index.samples
    (λ i j s h p. (p.0, p.1, (let from = p.0.from in let below = p.0.below in let high = p.0.row in omega (arith, past)))) (λ i j s h v. (v.0, v.1)) c.loop-index.invariant
