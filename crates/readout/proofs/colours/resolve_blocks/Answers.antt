use Rattle.std.proofs.Common.{rules, ◌≡◌, ◌∙◌, inl, inr, refl, ap, ℕ, ◌+◌, ◌-◌, ◌*◌, ◌/◌, ◌<◌, ◌≤◌, List, take, drop, length, length-take, length-drop, arith}
use Rattle.std.proofs.lemmas.Bool.{cases_lt}
use Rattle.grid.specs.Samples.{count_of}
use Rattle.lanes.specs.declared.block_samples.BlockSamples.{BlockSamples}
use Rattle.blocks.specs.Layout.{planes_of_tile, stored_in_tile}
use Rattle.canvas.specs.Layout.{columns_of, planes_of_row, stored}
use Rattle.readout.specs.Colours.{IsPixelOf, IsPixelWith, LiesInBlock}
use Rattle.blocks.proofs.Places.{part_within}
use Rattle.canvas.proofs.Places.{row_of, tile_of}
use Rattle.readout.proofs.PixelColours.{pixel_same, pixel_with}
use Rattle.readout.proofs.Written.{nothing_written, both_written, written_as}
use Rattle.readout.proofs.colours.resolve_blocks.Goals as goal

pub slice_bounds-resolve_block-end : goal.slice_bounds-resolve_block-end
slice_bounds-resolve_block-end c =
    let rows = c.args.rows.now in
    let canvas = rows.tile_rows.canvas in
    let r = c.row.result in
    let planes : List BlockSamples = take (r.planes.end - r.planes.start) (drop r.planes.start c.args.planes.now) in
    let long : length planes ≡ planes_of_row canvas = omega (arith, length-take (r.planes.end - r.planes.start) (drop r.planes.start c.args.planes.now), length-drop r.planes.start c.args.planes.now, c.row.ensures.planes, c.row.ensures.planes_fit, c.requires.planes) in
    let column : ℕ = c.loop-across.across / 8 in
    let each : ℕ = c.planes_of_tile-each.result in
    let room = part_within column (columns_of canvas) (planes_of_tile canvas.count) (omega (arith, c.loop-across-test.true)) in
    let fits : column * each + each ≤ length planes = rw c.planes_of_tile-each.ensures.value (omega (arith, room, long)) in
    search rules

pub loop-across-init : goal.loop-across-init
loop-across-init c =
    let rows = c.args.rows.now in
    nothing_written rows.tile_rows.canvas rows.tile_rows.first rows.tile_rows.end rows.unit rows.stride (λ i j bytes. IsPixelOf rows.tile_rows.canvas rows.tile_rows.first c.args.planes.now c.args.format i j bytes)
    (λ i j. (i / 8 < 0) × (j / 8 ≡ 8 * rows.tile_rows.first + c.args.down)) c.args.bytes.now (λ i j h here. omega (arith, here.0))

pub loop-across-preserved : goal.loop-across-preserved
loop-across-preserved c =
    let rows = c.args.rows.now in
    let canvas = rows.tile_rows.canvas in
    let first : ℕ = rows.tile_rows.first in
    let end : ℕ = rows.tile_rows.end in
    let w : ℕ = rows.unit in
    let format = c.args.format in
    let xs = c.args.planes.now in
    let down : ℕ = c.args.down in
    let across : ℕ = c.loop-across.across in
    let r = c.row.result in
    let is = c.row.ensures in
    let n : ℕ = r.planes.end - r.planes.start in
    let tiles : List BlockSamples = take n (drop r.planes.start xs) in
    let each : ℕ = c.planes_of_tile-each.result in
    let from : ℕ = across / 8 * each in
    let part : List BlockSamples = take (from + each - from) (drop from tiles) in
    let size : from + each - from ≡ planes_of_tile canvas.count = omega (arith, c.planes_of_tile-each.ensures.value) in
    let P : ℕ → ℕ → (ℕ → ℕ) → Type 0 = λ i j bytes. IsPixelOf canvas first xs format i j bytes in
    let same = λ (i j : ℕ) (f g : ℕ → ℕ) (h : (k : ℕ) → k < w → g k ≡ f k). pixel_same canvas first xs format i j f g (λ k small. h k (omega (arith, small, c.requires.unit))) in
    let sample : (i j s : ℕ) → LiesInBlock first across down i j → s < count_of canvas.count → stored_in_tile canvas.count part i j s ≡ stored canvas first xs i j s =
    λ i j s here l.
    let column : across / 8 ≡ i / 64 = omega (arith, here.column) in
    let row : r.j / 64 ≡ j / 64 = omega (arith, here.row, is.line) in
    let wide : i / 64 < columns_of canvas = omega (arith, here.column, c.loop-across-test.true) in
    let begin : from ≡ i / 64 * planes_of_tile canvas.count = (λ t. column t * c.planes_of_tile-each.ensures.value t) in
    tile_of canvas i j s (j / 64) tiles (from + each - from) from refl size begin l
    ∙ row_of canvas i j s (j / 64) first xs n r.planes.start refl (omega (arith, is.planes)) (is.first_plane ∙ ap (λ y. (y - first) * planes_of_row canvas) row) wide l in
    both_written canvas first end w rows.stride P same (λ i j. (i / 8 < across) × (j / 8 ≡ 8 * first + down)) (LiesInBlock first across down) (λ i j. (i / 8 < across + 1) × (j / 8 ≡ 8 * first + down)) c.args.bytes.now c.loop-across.bytes _ rows.fit.wide
    (λ i j h here. elim (cases_lt (i / 8) across) [ inl less ↦ inl (less, here.1) | inr more ↦ inr (record { column = omega (arith, here.0, more); row = here.1 }) ])
    (λ i j h here. (omega (arith, here.0), here.1))
    (λ i j h here. (omega (arith, here.column), here.row))
    (λ i j here there. omega (arith, here.0, there.column))
    c.loop-across.invariant
    (written_as canvas first end w rows.stride (λ i j bytes. IsPixelWith canvas.count (stored_in_tile canvas.count part i j) format bytes) (LiesInBlock first across down) (LiesInBlock first across down) P c.loop-across.bytes _ (λ i j h here. here) (λ i j h here. here)
    (λ i j bytes h here pixel. pixel_with canvas first xs format i j (stored_in_tile canvas.count part i j) bytes (λ s l. sample i j s here l) pixel) c.resolve_block.ensures)

pub returns : goal.returns
returns c =
    let rows = c.args.rows.now in
    let canvas = rows.tile_rows.canvas in
    let first : ℕ = rows.tile_rows.first in
    let P : ℕ → ℕ → (ℕ → ℕ) → Type 0 = λ i j bytes. IsPixelOf canvas first c.args.planes.now c.args.format i j bytes in
    written_as canvas first rows.tile_rows.end rows.unit rows.stride P (λ i j. (i / 8 < c.loop-across.across) × (j / 8 ≡ 8 * first + c.args.down)) (λ i j. j / 8 ≡ 8 * first + c.args.down) P c.args.bytes.now c.loop-across.bytes
    (λ i j h here. (omega (arith, h.column, c.loop-across-test.false), here)) (λ i j h here. here.1) (λ i j bytes h here pixel. pixel) c.loop-across.invariant
