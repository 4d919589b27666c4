use Rattle.std.proofs.Common.{◌≡◌, ◌∙◌, refl, sym, ap, ◌+◌, ◌-◌, ◌*◌, ◌<◌, ◌≤◌, ℕ, length, take, drop, rules, arith}
use Rattle.std.specs.Prelude.{slice_index_or}
use Rattle.blocks.specs.Layout.{planes_of_tile}
use Rattle.canvas.specs.Layout.{HasTile, planes_of_row}
use Rattle.canvas.specs.Tiles.{planes_in}
use Rattle.readout.specs.Tiles.{IsInTile, said_of, with_colour}
use Rattle.blocks.proofs.Cut.{put, part_of, put_here}
use Rattle.blocks.proofs.Places.{none, part_within}
use Rattle.canvas.proofs.Places.{within_row}
use Rattle.readout.proofs.Changes.{one_row_changed}
use Rattle.canvas.proofs.ClearedTiles.{uniform_same, plane_in}
use Rattle.readout.proofs.TileEntries.{plane_in_row}
use Rattle.readout.proofs.tile_colours.store_in_tile.Goals as goal

pub slice_bounds-store_tile-end : goal.slice_bounds-store_tile-end
slice_bounds-store_tile-end c =
    let self = c.args.tile_rows.now in
    let row : ℕ = c.args.row in
    let each : ℕ = c.planes_of_row-each.result in
    let tile : HasTile self.canvas self.first self.end c.args.column row = c.if-not-has_tile.ensures.0 refl in
    let room = part_within (row - self.first) (self.end - self.first) (planes_of_row self.canvas) (let from = tile.from in let below = tile.below in omega (arith, from, below)) in
    let fits : (row - self.first) * each + each ≤ length c.args.samples.now = rw c.planes_of_row-each.ensures.value (omega (arith, room, c.requires)) in
    search rules

pub returns-clause-stored : goal.returns-clause-stored
returns-clause-stored c =
    let self = c.args.tile_rows.now in
    let column : ℕ = c.args.column in
    let row : ℕ = c.args.row in
    let each : ℕ = c.planes_of_row-each.result in
    let a : ℕ = (row - self.first) * each in
    let n : ℕ = a + each - a in
    let tile : HasTile self.canvas self.first self.end column row = c.if-not-has_tile.ensures.0 refl in
    let many : n ≡ planes_of_row self.canvas = omega (arith, c.planes_of_row-each.ensures.value) in
    let start : a ≡ (row - self.first) * planes_of_row self.canvas = ap (λ m. (row - self.first) * m) c.planes_of_row-each.ensures.value in
    let room = part_within (row - self.first) (self.end - self.first) (planes_of_row self.canvas) (let from = tile.from in let below = tile.below in omega (arith, from, below)) in
    one_row_changed self.canvas c.args.samples.now c.store_tile.new.samples n a (omega (arith, room, many, start, c.requires)) (omega (arith, c.store_tile.auto.samples, room, many, start, c.requires))
    self.first self.end row (λ i j s. IsInTile column row i j) (λ i j s sample. with_colour (said_of self.canvas.count c.args.colours.now i j s) sample) tile.from many start (λ i j s t. t.down) c.store_tile.ensures.stored

pub returns-clause-uniform : goal.returns-clause-uniform
returns-clause-uniform c one u =
    let self = c.args.tile_rows.now in
    let canvas = self.canvas in
    let column : ℕ = c.args.column in
    let row : ℕ = c.args.row in
    let each : ℕ = c.planes_of_row-each.result in
    let a : ℕ = (row - self.first) * each in
    let n : ℕ = a + each - a in
    let old = c.args.samples.now in
    let part = c.store_tile.new.samples in
    let tile : HasTile canvas self.first self.end column row = c.if-not-has_tile.ensures.0 refl in
    let many : n ≡ planes_of_row canvas = omega (arith, c.planes_of_row-each.ensures.value) in
    let start : a ≡ (row - self.first) * planes_of_row canvas = ap (λ m. (row - self.first) * m) c.planes_of_row-each.ensures.value in
    let room = part_within (row - self.first) (self.end - self.first) (planes_of_row canvas) (let from = tile.from in let below = tile.below in omega (arith, from, below)) in
    let inside : (k : ℕ) → k < planes_of_tile canvas.count → column * planes_of_tile canvas.count + k < n = λ k l. (let below = within_row canvas column k tile.wide l in omega (arith, below, many)) in
    let before = uniform_same canvas.count (planes_in canvas self.first column row old) (planes_in canvas row column row (take n (drop a old)))
    (λ k l.
    plane_in_row canvas column row (take n (drop a old)) k tile.wide l
    ∙ part_of old a n none (column * planes_of_tile canvas.count + k) (inside k l)
    ∙ ap (λ m. slice_index_or old (m + (column * planes_of_tile canvas.count + k)) none) start
    ∙ sym (plane_in canvas self.first column row old k tile.wide l)) u in
    uniform_same canvas.count (planes_in canvas row column row part) (planes_in canvas self.first column row (put old part a n))
    (λ k l.
    plane_in canvas self.first column row (put old part a n) k tile.wide l
    ∙ ap (λ m. slice_index_or (put old part a n) (m + (column * planes_of_tile canvas.count + k)) none) (sym start)
    ∙ put_here old part a n none (omega (arith, room, many, start, c.requires)) (omega (arith, c.store_tile.auto.samples, room, many, start, c.requires)) (column * planes_of_tile canvas.count + k) (inside k l)
    ∙ sym (plane_in_row canvas column row part k tile.wide l))
    (c.store_tile.ensures.uniform one before)
