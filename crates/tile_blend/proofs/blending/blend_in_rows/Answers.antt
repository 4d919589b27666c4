use Rattle.std.proofs.Common.{◌≡◌, refl, ap, ◌+◌, ◌-◌, ◌*◌, ◌≤◌, ℕ, length, rules, arith}
use Rattle.blocks.proofs.Places.{part_within}
use Rattle.canvas.specs.Layout.{HasTile, planes_of_row}
use Rattle.tile_blend.specs.Fragments.{TakesKept}
use Rattle.tile_blend.proofs.Rows.{tile_in_rows}
use Rattle.tile_blend.proofs.blending.blend_in_rows.Goals as goal

pub slice_bounds-blend_tile-end : goal.slice_bounds-blend_tile-end
slice_bounds-blend_tile-end c =
    let self = c.args.tile_rows.now in
    let row : ℕ = c.args.row in
    let each : ℕ = c.planes_of_row-each.result in
    let tile : HasTile self.canvas self.first self.end c.args.column row = c.if-not-has_tile.ensures.0 refl in
    let room = part_within (row - self.first) (self.end - self.first) (planes_of_row self.canvas) (let from = tile.from in let below = tile.below in omega (arith, from, below)) in
    let fits : (row - self.first) * each + each ≤ length c.args.samples.now = rw c.planes_of_row-each.ensures.value (omega (arith, room, c.requires)) in
    search rules

pub returns-clause-blended : goal.returns-clause-blended
returns-clause-blended c =
    let self = c.args.tile_rows.now in
    let f = c.args.fragments.now in
    let column : ℕ = c.args.column in
    let row : ℕ = c.args.row in
    let each : ℕ = c.planes_of_row-each.result in
    let a : ℕ = (row - self.first) * each in
    let n : ℕ = a + each - a in
    let tile : HasTile self.canvas self.first self.end column row = c.if-not-has_tile.ensures.0 refl in
    let many : n ≡ planes_of_row self.canvas = omega (arith, c.planes_of_row-each.ensures.value) in
    let start : a ≡ (row - self.first) * planes_of_row self.canvas = ap (λ m. (row - self.first) * m) c.planes_of_row-each.ensures.value in
    let room = part_within (row - self.first) (self.end - self.first) (planes_of_row self.canvas) (let from = tile.from in let below = tile.below in omega (arith, from, below)) in
    tile_in_rows self.canvas c.args.samples.now c.blend_tile.new.samples n a (omega (arith, room, many, start, c.requires)) (omega (arith, c.blend_tile.auto.samples, room, many, start, c.requires))
    column row (TakesKept self.canvas.count c.args.merge.now f.colours.now f.depths.now f.kept.now) self.first self.end tile.from many start c.blend_tile.ensures
