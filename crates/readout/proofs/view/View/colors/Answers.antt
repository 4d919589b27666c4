use Rattle.std.proofs.Common.{◌≡◌, ◌∙◌, refl, sym, ap, subst, ◌+◌, ◌*◌, ◌≤◌, ℕ, length, slice_index, arith}
use Rattle.canvas.specs.Layout.{stored}
use Rattle.readout.specs.Pixels.{IsPixelRow, shown_rows, pixel_bytes}
use Rattle.readout.specs.Entries.{FitEntries}
use Rattle.readout.specs.Colours.{IsSampleColour}
use Rattle.readout.proofs.Units.{entry_in}
use Rattle.readout.proofs.Written.{one_row_written, all_rows_written}
use Rattle.readout.proofs.PixelColours.{sample_colour_same}
use Rattle.readout.proofs.PixelRows.{asked_row, samples_of_row}
use Rattle.readout.proofs.view.View.colors.Goals as goal

pub loop-index-preserved : goal.loop-index-preserved
loop-index-preserved c =
    let self = c.args.self.now.rows in
    let canvas = self.canvas in
    let xs = c.args.self.now.planes.now in
    let s : ℕ = c.args.s in
    let format = c.args.format in
    let w : ℕ = pixel_bytes format in
    let is_unit : c.pixel_bytes.result ≡ w = c.pixel_bytes.ensures in
    let stride : ℕ = c.args.stride in
    let index : ℕ = c.loop-index.index in
    let r = c.row-row.result in
    let fits : FitEntries canvas self.first self.end s w stride (length c.args.bytes.now) = rw is_unit at c.in_ok-rows.ensures.fits.0 refl in
    let asked = c.in_ok-rows.ensures.rows in
    let size : ℕ = length c.loop-index.bytes in
    let is : IsPixelRow canvas self.first self.end w stride size index r =
    asked_row c.in_ok-rows.rows self w stride size index r (asked.0, asked.1 ∙ is_unit, asked.2, asked.3 ∙ sym c.loop-index.auto.bytes) c.row-row.ensures in
    one_row_written canvas self.first self.end w stride (λ i j bytes. IsSampleColour format (stored canvas self.first xs i j s) bytes) (λ i j f h. sample_colour_same format (stored canvas self.first xs i j s) f h)
    index r c.args.bytes.now c.loop-index.bytes c.colour_row.new.bytes is fits.1.wide (omega (arith, c.colour_row.auto.bytes, is)) c.loop-index.invariant
    (λ s l. entry_in format canvas.width s l)
    (λ i l. subst (λ sample. IsSampleColour format sample (λ k. slice_index c.colour_row.new.bytes (i * w + k))) (samples_of_row canvas self.first self.end w stride size index r xs is i s l fits.0) (c.colour_row.ensures i l))

pub returns-clause-colours : goal.returns-clause-colours
returns-clause-colours c =
    let self = c.args.self.now.rows in
    let rows = c.in_ok-rows.ensures.rows.0 in
    let past : shown_rows self.canvas self.first self.end ≤ c.loop-index.index = omega (arith, c.loop-index-test.false, c.count-index-end.ensures, ap (λ t. shown_rows t.canvas t.first t.end) rows) in
    all_rows_written self.canvas self.first self.end (pixel_bytes c.args.format) c.args.stride (λ i j bytes. IsSampleColour c.args.format (stored self.canvas self.first c.args.self.now.planes.now i j c.args.s) bytes) c.loop-index.index _ _ past c.loop-index.invariant
