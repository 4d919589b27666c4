use Rattle.std.proofs.Common.{◌≡◌, ◌∙◌, inl, inr, refl, ap, subst, ℕ, ◌+◌, ◌*◌, ◌/◌, ◌<◌, ◌≤◌, length, arith}
use Rattle.std.proofs.lemmas.Bool.{cases_lt}
use Rattle.canvas.specs.declared.tile_rows.TileRows.{TileRows}
use Rattle.readout.specs.Pixels.{IsLargeEnough, AreWrittenIn, shown_rows, pixel_bytes}
use Rattle.readout.specs.Colours.{IsPixelOf}
use Rattle.readout.proofs.PixelColours.{pixel_same}
use Rattle.readout.proofs.Written.{nothing_written, all_written, both_written}
use Rattle.readout.proofs.view.View.resolve.Goals as goal

pub loop-down-init : goal.loop-down-init
loop-down-init c =
    let self = c.args.self.now.rows in
    nothing_written self.canvas self.first self.end (pixel_bytes c.args.format) c.args.stride (λ i j bytes. IsPixelOf self.canvas self.first c.args.self.now.planes.now c.args.format i j bytes)
    (λ i j. j / 8 < 8 * self.first + 0) c.args.bytes.now (λ i j h here. omega (arith, here, h.from))

pub loop-down-preserved : goal.loop-down-preserved
loop-down-preserved c =
    let self = c.args.self.now.rows in
    let canvas = self.canvas in
    let first : ℕ = self.first in
    let xs = c.args.self.now.planes.now in
    let format = c.args.format in
    let w : ℕ = pixel_bytes format in
    let stride : ℕ = c.args.stride in
    let down : ℕ = c.loop-down.down in
    let middle = c.loop-down.bytes in
    let new = c.resolve_blocks.new.bytes in
    let P : ℕ → ℕ → (ℕ → ℕ) → Type 0 = λ i j bytes. IsPixelOf canvas first xs format i j bytes in
    let is_unit : c.pixel_bytes.result ≡ w = c.pixel_bytes.ensures in
    let fits : IsLargeEnough canvas first self.end w stride (length c.args.bytes.now) = rw is_unit at c.in_ok-rows.ensures.fits.0 refl in
    let asked = c.in_ok-rows.ensures.rows in
    let next : AreWrittenIn canvas first self.end w stride (λ i j. j / 8 ≡ 8 * first + down) P middle new =
    subst (λ (t : TileRows). AreWrittenIn t.canvas t.first t.end w stride (λ i j. j / 8 ≡ 8 * t.first + down) (λ i j bytes. IsPixelOf t.canvas t.first xs format i j bytes) middle new) asked.0
    (rw (asked.1 ∙ is_unit, asked.2) at c.resolve_blocks.ensures) in
    both_written canvas first self.end w stride P (λ i j f g h. pixel_same canvas first xs format i j f g h) (λ i j. j / 8 < 8 * first + down) (λ i j. j / 8 ≡ 8 * first + down) (λ i j. j / 8 < 8 * first + (down + 1)) c.args.bytes.now middle new fits.wide
    (λ i j h here. elim (cases_lt (j / 8) (8 * first + down)) [ inl less ↦ inl less | inr more ↦ inr (omega (arith, here, more)) ])
    (λ i j h here. omega (arith, here)) (λ i j h here. omega (arith, here)) (λ i j here there. omega (arith, here, there)) c.loop-down.invariant next

pub returns-clause-resolved : goal.returns-clause-resolved
returns-clause-resolved c =
    let self = c.args.self.now.rows in
    let rows = c.in_ok-rows.ensures.rows.0 in
    let past : shown_rows self.canvas self.first self.end ≤ 8 * c.loop-down.down = omega (arith, c.loop-down-test.false, c.count.ensures, ap (λ t. shown_rows t.canvas t.first t.end) rows) in
    all_written self.canvas self.first self.end (pixel_bytes c.args.format) c.args.stride (λ i j bytes. IsPixelOf self.canvas self.first c.args.self.now.planes.now c.args.format i j bytes) (λ i j. j / 8 < 8 * self.first + c.loop-down.down)
    _ _ (λ i j h. omega (arith, h.from, h.row, h.below, past)) c.loop-down.invariant
