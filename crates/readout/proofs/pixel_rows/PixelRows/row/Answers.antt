use Rattle.std.proofs.Common.{◌≡◌, ◌∙◌, ap, refl, ℕ, ◌+◌, ◌-◌, ◌*◌, ◌/◌, ◌<◌, ◌≤◌, arith}
use Rattle.std.proofs.Math.Nat.{add-mul, mul-le-mul_right}
use Rattle.canvas.specs.Layout.{planes_of_row}
use Rattle.readout.specs.Pixels.{shown_rows}
use Rattle.blocks.proofs.Places.{part_within}
use Rattle.readout.proofs.pixel_rows.PixelRows.row.Goals as goal

pub returns : goal.returns
returns c =
    let rows = c.args.self.now.tile_rows in
    let canvas = rows.canvas in
    let stride : ℕ = c.args.self.now.stride in
    let fit = c.args.self.now.fit in
    let high = fit.high in
    let index : ℕ = c.args.index in
    let each : ℕ = c.planes_of_row-each.result in
    let is_each : each ≡ planes_of_row canvas = c.planes_of_row-each.ensures.value in
    let start : index / 64 * each ≡ index / 64 * planes_of_row canvas = ap (λ n. index / 64 * n) is_each in
    let tile_row : index / 64 ≡ (64 * rows.first + index) / 64 - rows.first = omega arith in
    let some : index / 64 < rows.end - rows.first = omega (arith, c.requires) in
    let room = part_within (index / 64) (rows.end - rows.first) (planes_of_row canvas) some in
    let line : index ≡ 64 * rows.first + index - 64 * rows.first = omega arith in
    let begin : index * stride ≡ (64 * rows.first + index - 64 * rows.first) * stride = ap (λ n. n * stride) line in
    let more : index + 1 ≤ shown_rows canvas rows.first rows.end = omega (arith, c.requires) in
    let next : (index + 1) * stride ≤ shown_rows canvas rows.first rows.end * stride = mul-le-mul_right stride more in
    record {
      line = refl;
      shown = omega (arith, c.requires);
      below = omega (arith, c.requires);
      first_plane = start ∙ ap (λ n. n * planes_of_row canvas) tile_row;
      planes = omega (arith, is_each);
      planes_fit = omega (arith, room, start, is_each);
      first_entry = omega (arith, begin);
      entries = refl;
      entries_fit = omega (arith, high, next, add-mul index 1 stride);
    }
