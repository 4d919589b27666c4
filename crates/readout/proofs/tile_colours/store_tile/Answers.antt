use Rattle.std.proofs.Common.{◌≡◌, ◌∙◌, sym, ap, ◌+◌, ◌-◌, ◌*◌, ◌≤◌, ℕ, length, take, drop, rules, arith}
use Rattle.std.specs.Prelude.{slice_index_or}
use Rattle.blocks.specs.Layout.{planes_of_tile}
use Rattle.canvas.specs.Layout.{columns_of}
use Rattle.canvas.specs.Tiles.{planes_in}
use Rattle.readout.specs.Tiles.{IsInTile, said_of, with_colour}
use Rattle.blocks.proofs.Cut.{put, part_of, put_here}
use Rattle.blocks.proofs.Places.{none, part_within}
use Rattle.readout.proofs.Changes.{one_tile_changed}
use Rattle.canvas.proofs.ClearedTiles.{uniform_same}
use Rattle.readout.proofs.TileEntries.{plane_in_row}
use Rattle.readout.proofs.tile_colours.store_tile.Goals as goal

pub slice_bounds-store_colours-end : goal.slice_bounds-store_colours-end
slice_bounds-store_colours-end c =
    let self = c.args.canvas.now in
    let column : ℕ = c.args.column in
    let each : ℕ = c.planes_of_tile-each.result in
    let room = part_within column (columns_of self) (planes_of_tile self.count) c.requires.column in
    let fits : column * each + each ≤ length c.args.samples.now = rw c.planes_of_tile-each.ensures.value (omega (arith, room, c.requires.samples)) in
    search rules

pub returns-clause-stored : goal.returns-clause-stored
returns-clause-stored c =
    let self = c.args.canvas.now in
    let column : ℕ = c.args.column in
    let each : ℕ = c.planes_of_tile-each.result in
    let at : ℕ = column * each in
    let n : ℕ = at + each - at in
    let many : n ≡ planes_of_tile self.count = omega (arith, c.planes_of_tile-each.ensures.value) in
    let start : at ≡ column * planes_of_tile self.count = ap (λ m. column * m) c.planes_of_tile-each.ensures.value in
    let room = part_within column (columns_of self) (planes_of_tile self.count) c.requires.column in
    one_tile_changed self c.args.samples.now c.store_colours.new.samples n at (omega (arith, room, many, start, c.requires.samples)) (omega (arith, c.store_colours.auto.samples, room, many, start, c.requires.samples))
    column c.args.row (λ i j s. IsInTile column c.args.row i j) (λ i j s sample. with_colour (said_of self.count c.args.colours.now i j s) sample) many start
    (λ i j s t. (t.across, t.down)) (λ i j s h e d t. c.store_colours.ensures.stored i j s h) (λ i j s h e d other. absurd (other (record { across = e; down = d })))

pub returns-clause-uniform : goal.returns-clause-uniform
returns-clause-uniform c one u =
    let self = c.args.canvas.now in
    let column : ℕ = c.args.column in
    let row : ℕ = c.args.row in
    let each : ℕ = c.planes_of_tile-each.result in
    let at : ℕ = column * each in
    let n : ℕ = at + each - at in
    let old = c.args.samples.now in
    let part = c.store_colours.new.samples in
    let many : n ≡ planes_of_tile self.count = omega (arith, c.planes_of_tile-each.ensures.value) in
    let start : at ≡ column * planes_of_tile self.count = ap (λ m. column * m) c.planes_of_tile-each.ensures.value in
    let room = part_within column (columns_of self) (planes_of_tile self.count) c.requires.column in
    let before = uniform_same self.count (planes_in self row column row old) (take n (drop at old))
    (λ k l. part_of old at n none k (omega (arith, l, many)) ∙ ap (λ a. slice_index_or old (a + k) none) start ∙ sym (plane_in_row self column row old k c.requires.column l)) u in
    uniform_same self.count part (planes_in self row column row (put old part at n))
    (λ k l.
    plane_in_row self column row (put old part at n) k c.requires.column l
    ∙ ap (λ a. slice_index_or (put old part at n) (a + k) none) (sym start)
    ∙ put_here old part at n none (omega (arith, room, many, start, c.requires.samples)) (omega (arith, c.store_colours.auto.samples, room, many, start, c.requires.samples)) k (omega (arith, l, many)))
    (c.store_colours.ensures.uniform one before)
