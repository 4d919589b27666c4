use Rattle.std.proofs.Common.{◌≡◌, ap, ◌+◌, ◌-◌, ◌*◌, ◌≤◌, ℕ, length, rules, arith}
use Rattle.blocks.specs.Layout.{planes_of_tile}
use Rattle.blocks.proofs.Places.{part_within}
use Rattle.canvas.specs.Layout.{columns_of}
use Rattle.tile_blend.specs.Fragments.{TakesKept}
use Rattle.tile_blend.proofs.Rows.{tile_in_row}
use Rattle.tile_blend.proofs.blending.blend_tile.Goals as goal

pub slice_bounds-blend_blocks-end : goal.slice_bounds-blend_blocks-end
slice_bounds-blend_blocks-end c =
    let self = c.args.canvas.now in
    let column : ℕ = c.args.column in
    let each : ℕ = c.planes_of_tile-each.result in
    let room = part_within column (columns_of self) (planes_of_tile self.count) c.requires.column in
    let fits : column * each + each ≤ length c.args.samples.now = rw c.planes_of_tile-each.ensures.value (omega (arith, room, c.requires.samples)) in
    search rules

pub returns : goal.returns
returns c =
    let self = c.args.canvas.now in
    let f = c.args.fragments.now in
    let column : ℕ = c.args.column in
    let each : ℕ = c.planes_of_tile-each.result in
    let at : ℕ = column * each in
    let n : ℕ = at + each - at in
    let many : n ≡ planes_of_tile self.count = omega (arith, c.planes_of_tile-each.ensures.value) in
    let start : at ≡ column * planes_of_tile self.count = ap (λ m. column * m) c.planes_of_tile-each.ensures.value in
    let room = part_within column (columns_of self) (planes_of_tile self.count) c.requires.column in
    tile_in_row self c.args.samples.now c.blend_blocks.new.samples n at (omega (arith, room, many, start, c.requires.samples)) (omega (arith, c.blend_blocks.auto.samples, room, many, start, c.requires.samples))
    column c.args.row (TakesKept self.count c.args.merge.now f.colours.now f.depths.now f.kept.now) many start c.blend_blocks.ensures
