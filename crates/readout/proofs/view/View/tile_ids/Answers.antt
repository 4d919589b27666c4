use Rattle.std.proofs.Common.{◌≡◌, ◌∙◌, ap, ◌+◌, ◌-◌, ◌*◌, ℕ, List, take, drop, arith}
use Rattle.lanes.specs.declared.block_samples.BlockSamples.{BlockSamples}
use Rattle.blocks.specs.Layout.{planes_of_tile, stored_in_tile, id_of}
use Rattle.canvas.specs.Layout.{planes_of_row}
use Rattle.canvas.specs.Tiles.{planes_in}
use Rattle.readout.proofs.TileEntries.{in_planes}
use Rattle.readout.proofs.view.View.tile_ids.Goals as goal

pub returns-clause-ids : goal.returns-clause-ids
returns-clause-ids c i j s h t =
    let self = c.args.self.now.rows in
    let canvas = self.canvas in
    let xs = c.args.self.now.planes.now in
    let column : ℕ = c.args.column in
    let row : ℕ = c.args.row in
    let each : ℕ = c.planes_of_tile-each.result in
    let of_row : ℕ = c.planes_of_row-of_row.result in
    let from : ℕ = (row - self.first) * of_row in
    let at : ℕ = column * each in
    let size_row : from + of_row - from ≡ planes_of_row canvas = omega (arith, c.planes_of_row-of_row.ensures.value) in
    let size_tile : at + each - at ≡ planes_of_tile canvas.count = omega (arith, c.planes_of_tile-each.ensures.value) in
    let planes : List BlockSamples = take (from + of_row - from) (drop from xs) in
    let of_tile : take (at + each - at) (drop at planes) ≡ planes_in canvas self.first column row xs =
    ap (λ n. take n (drop at planes)) size_tile
    ∙ ap (λ a. take (planes_of_tile canvas.count) (drop (column * a) planes)) c.planes_of_tile-each.ensures.value
    ∙ ap (λ n. take (planes_of_tile canvas.count) (drop (column * planes_of_tile canvas.count) (take n (drop from xs)))) size_row
    ∙ ap (λ a. take (planes_of_tile canvas.count) (drop (column * planes_of_tile canvas.count) (take (planes_of_row canvas) (drop ((row - self.first) * a) xs)))) c.planes_of_row-of_row.ensures.value in
    c.ids_of_tile.ensures.ids i j s h.is_sample
    ∙ ap (λ ys. id_of (stored_in_tile canvas.count ys i j s)) of_tile
    ∙ ap id_of (in_planes canvas self.first self.end column row xs i j s h t)
