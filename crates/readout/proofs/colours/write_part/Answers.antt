use Rattle.std.proofs.Common.{◌≡◌, ◌∙◌, inl, inr, sym, ap, subst, ℕ, ◌+◌, ◌-◌, ◌*◌, ◌<◌, ◌≤◌, length, slice_index, arith}
use Rattle.std.proofs.lemmas.Bool.{cases_lt}
use Rattle.lanes.specs.Block.{stored_at}
use Rattle.blocks.specs.Layout.{pixel_in_block}
use Rattle.readout.specs.Pixels.{pixel_bytes, IsPixelRow}
use Rattle.readout.specs.Colours.{IsSampleColour, LiesInPart, AreWrittenTo}
use Rattle.readout.proofs.PixelColours.{sample_colour_same}
use Rattle.readout.proofs.Units.{IsEntryOf, entry_in}
use Rattle.readout.proofs.Written.{nothing_written, both_written, run_written}
use Rattle.readout.proofs.colours.write_part.Goals as goal

pub loop-row-init : goal.loop-row-init
loop-row-init c =
    let rows = c.args.rows.now in
    let first : ℕ = rows.tile_rows.first in
    nothing_written rows.tile_rows.canvas first rows.tile_rows.end rows.unit rows.stride (λ i j bytes. IsSampleColour c.args.format (stored_at c.args.plane.now (pixel_in_block i j)) bytes)
    (LiesInPart first c.args.across c.args.down c.args.width 0) c.args.bytes.now (λ i j h here. omega (arith, here.top, here.bottom))

pub loop-row-preserved : goal.loop-row-preserved
loop-row-preserved c =
    let rows = c.args.rows.now in
    let canvas = rows.tile_rows.canvas in
    let first : ℕ = rows.tile_rows.first in
    let end : ℕ = rows.tile_rows.end in
    let w : ℕ = rows.unit in
    let format = c.args.format in
    let plane = c.args.plane.now in
    let across : ℕ = c.args.across in
    let down : ℕ = c.args.down in
    let x : ℕ = 8 * across in
    let many : ℕ = c.args.width in
    let row : ℕ = c.loop-row.row in
    let index : ℕ = 8 * down + row in
    let r = c.row-pixels.result in
    let unit : ℕ = c.pixel_bytes-unit.result in
    let at : ℕ = r.entries.start + x * unit in
    let middle = c.loop-row.bytes in
    let run = c.resolve_plane.new.bytes in
    let P : ℕ → ℕ → (ℕ → ℕ) → Type 0 = λ i j bytes. IsSampleColour format (stored_at plane (pixel_in_block i j)) bytes in
    let same = λ (i j : ℕ) (f g : ℕ → ℕ) (h : (k : ℕ) → k < w → g k ≡ f k). sample_colour_same format (stored_at plane (pixel_in_block i j)) f g (λ k small. h k (omega (arith, small, c.requires.unit))) in
    let is_unit : unit ≡ w = c.pixel_bytes-unit.ensures ∙ sym c.requires.unit in
    let size : rows.size ≡ length middle = omega (arith, c.loop-row.auto.bytes, c.requires.size) in
    let is_row : IsPixelRow canvas first end w rows.stride (length middle) index r = subst (λ n. IsPixelRow canvas first end w rows.stride n index r) size c.row-pixels.ensures in
    let is_size : at + many * unit - at ≡ many * w = omega (arith, ap (λ u. many * u) is_unit) in
    let start : at ≡ r.entries.start + x * w = ap (λ u. r.entries.start + x * u) is_unit in
    let below : row < 8 = omega (arith, c.loop-row-test.true, c.requires.height) in
    let entry : (s : ℕ) → s < many * w → IsEntryOf w many s = subst (λ u. (s : ℕ) → s < many * u → IsEntryOf u many s) (sym c.requires.unit) (entry_in format many) in
    let written : (i : ℕ) → i < many → P (x + i) r.j (λ k. slice_index run (i * w + k)) =
    λ i l.
    let pixel : 8 * row + i ≡ pixel_in_block (x + i) r.j = omega (arith, l, c.requires.width, below, is_row.line) in
    subst (λ u. P (x + i) r.j (λ k. slice_index run (i * u + k))) (sym c.requires.unit)
    (subst (λ p. IsSampleColour format (stored_at plane p) (λ k. slice_index run (i * pixel_bytes format + k))) pixel (c.resolve_plane.ensures i l)) in
    both_written canvas first end w rows.stride P same (LiesInPart first across down many row) (λ i j. (j ≡ 64 * first + index) × (x ≤ i) × (i < x + many)) (LiesInPart first across down many (row + 1)) c.args.bytes.now middle _ rows.fit.wide
    (λ i j h here. elim (cases_lt j (64 * first + index)) [
      | inl less ↦ inl (record { left = here.left; right = here.right; top = here.top; bottom = omega (arith, less) })
      | inr more ↦ inr (omega (arith, here.bottom, more), here.left, here.right)
    ])
    (λ i j h here. record { left = here.left; right = here.right; top = here.top; bottom = omega (arith, here.bottom) })
    (λ i j h here. record { left = here.1; right = here.2; top = omega (arith, here.0); bottom = omega (arith, here.0) })
    (λ i j here there. omega (arith, here.bottom, there.0))
    c.loop-row.invariant
    (run_written canvas first end w rows.stride P same index x many at (at + many * unit - at) r middle run is_row c.requires.columns start is_size (omega (arith, c.resolve_plane.auto.bytes)) entry written)

pub returns : goal.returns
returns c =
    let rows = c.args.rows.now in
    let first : ℕ = rows.tile_rows.first in
    let across : ℕ = c.args.across in
    let down : ℕ = c.args.down in
    let width : ℕ = c.args.width in
    let row : ℕ = c.loop-row.row in
    let P : ℕ → ℕ → (ℕ → ℕ) → Type 0 = λ i j bytes. IsSampleColour c.args.format (stored_at c.args.plane.now (pixel_in_block i j)) bytes in
    subst (λ n. AreWrittenTo rows (LiesInPart first across down width n) P c.args.bytes.now c.loop-row.bytes) (omega (arith, c.loop-row-test.false, c.loop-row.auto.row-end)) c.loop-row.invariant
