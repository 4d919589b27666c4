use Rattle.std.proofs.Common.{◌≡◌, ◌∙◌, ap, ◌+◌, ◌-◌, ◌≤◌, ℕ, refl, sym, subst, map, length, arith}
use Rattle.std.proofs.lemmas.List.{length-map}
use Rattle.canvas.specs.Layout.{stored}
use Rattle.readout.specs.Pixels.{IsPixelRow, shown_rows}
use Rattle.readout.specs.Entries.{FitEntries}
use Rattle.blocks.proofs.Cut.{map-put}
use Rattle.readout.proofs.Units.{one_entry, as_units}
use Rattle.readout.proofs.Written.{AreRowsWritten, one_row_written, all_rows_written}
use Rattle.readout.proofs.PixelRows.{asked_row, samples_of_row}
use Rattle.readout.proofs.view.View.entries.Goals as goal

pub loop-index-preserved : goal.loop-index-preserved
loop-index-preserved g c =
    let self = c.args.self.now.rows in
    let canvas = self.canvas in
    let xs = c.args.self.now.planes.now in
    let s : ℕ = c.args.s in
    let stride : ℕ = c.args.stride in
    let index : ℕ = c.loop-index.index in
    let r = c.row-row.result in
    let number = g.E.Entry.number in
    let number_of = g.E.Entry.number_of in
    let old = map number c.args.entries.now in
    let middle = map number c.loop-index.entries in
    let out = map number c.entry_row.new.entries in
    let fits : FitEntries canvas self.first self.end s 1 stride (length c.args.entries.now) = c.in_ok-rows.ensures.fits.0 refl in
    let asked = c.in_ok-rows.ensures.rows in
    let size : ℕ = length middle in
    let is : IsPixelRow canvas self.first self.end 1 stride size index r =
    asked_row c.in_ok-rows.rows self 1 stride size index r (asked.0, asked.1, asked.2, asked.3 ∙ sym c.loop-index.auto.entries ∙ sym (length-map c.loop-index.entries number)) c.row-row.ensures in
    let long : length out ≡ r.entries.end - r.entries.start = omega (arith, c.entry_row.auto.entries, is, length-map c.entry_row.new.entries number, length-map c.loop-index.entries number) in
    subst (λ written. AreRowsWritten canvas self.first self.end 1 stride (λ i j entries. entries 0 ≡ number_of (stored canvas self.first xs i j s)) (index + 1) old written)
    (sym (map-put number c.loop-index.entries c.entry_row.new.entries r.entries.start (r.entries.end - r.entries.start)))
    (one_row_written canvas self.first self.end 1 stride (λ i j entries. entries 0 ≡ number_of (stored canvas self.first xs i j s)) (λ i j f h same p. same 0 (omega arith) ∙ p)
    index r old middle out is fits.1.wide long c.loop-index.invariant
    (λ s l. one_entry canvas.width s l)
    (λ i l. as_units out i ∙ c.entry_row.ensures i l ∙ ap number_of (samples_of_row canvas self.first self.end 1 stride size index r xs is i s l fits.0)))

pub returns-clause-entries : goal.returns-clause-entries
returns-clause-entries g c =
    let self = c.args.self.now.rows in
    let rows = c.in_ok-rows.ensures.rows.0 in
    let past : shown_rows self.canvas self.first self.end ≤ c.loop-index.index = omega (arith, c.loop-index-test.false, c.count-index-end.ensures, ap (λ t. shown_rows t.canvas t.first t.end) rows) in
    all_rows_written self.canvas self.first self.end 1 c.args.stride (λ i j entries. entries 0 ≡ g.E.Entry.number_of (stored self.canvas self.first c.args.self.now.planes.now i j c.args.s)) c.loop-index.index _ _ past c.loop-index.invariant
