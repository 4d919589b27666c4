use Rattle.std.proofs.Common.{ap, ◌≡◌, ◌∙◌, ◌+◌, ◌-◌, ◌*◌, ◌/◌, ◌<◌, ℕ, take, drop, refl, arith}
use Rattle.grid.specs.Samples.{count_of}
use Rattle.blocks.specs.Layout.{planes_of_tile}
use Rattle.canvas.specs.Layout.{HasPixel, columns_of, planes_of_row}
use Rattle.canvas.proofs.Places.{row_of, tile_of}
use Rattle.readout.proofs.view.View.sample.Goals as goal

pub returns-clause-value : goal.returns-clause-value
returns-clause-value c =
    let self = c.args.self.now.rows in
    let i : ℕ = c.args.i in
    let j : ℕ = c.args.j in
    let each : ℕ = c.planes_of_row-each.result in
    let from : ℕ = (j / 64 - self.first) * each in
    let n : ℕ = from + each - from in
    let size : n ≡ planes_of_row self.canvas = omega (arith, c.planes_of_row-each.ensures.value) in
    let at : from ≡ (j / 64 - self.first) * planes_of_row self.canvas = rw c.planes_of_row-each.ensures.value (omega arith) in
    let has : HasPixel self.canvas self.first self.end i j = c.if-not-has_pixel.ensures.0 refl in
    let wide : i / 64 < columns_of self.canvas = omega (arith, has.column) in
    let sample : c.args.s < count_of self.canvas.count = omega (arith, c.count.ensures, c.if-count-s.false) in
    let planes = take n (drop from c.args.self.now.planes.now) in
    let of_tile : ℕ = c.planes_of_tile-each.result in
    let first : ℕ = i / 64 * of_tile in
    let many : ℕ = first + of_tile - first in
    let whole : many ≡ planes_of_tile self.canvas.count = omega (arith, c.planes_of_tile-each.ensures.value) in
    let start : first ≡ i / 64 * planes_of_tile self.canvas.count = ap (λ m. i / 64 * m) c.planes_of_tile-each.ensures.value in
    c.sample_in_tile.ensures
    ∙ tile_of self.canvas i j c.args.s (j / 64) planes many first refl whole start sample
    ∙ row_of self.canvas i j c.args.s (j / 64) self.first c.args.self.now.planes.now n from refl size at wide sample
