use Rattle.std.proofs.Common.{◌≡◌, ◌∙◌, ◌-◌, ◌*◌, min}
use Rattle.grid.specs.Pixels.{side_of}
use Rattle.tile.proofs.Shown.{tile_bin, begins_in_height, in_picture, picture_in}
use Rattle.tile.proofs.tile_pixels.render.Goals as goal

pub draw_bin-same_run-requires-clause-bin : goal.draw_bin-same_run-requires-clause-bin
draw_bin-same_run-requires-clause-bin c =
    tile_bin c.args.tiling.now c.args.k c.requires.tile c.tile_of-tile.result c.tile_of-tile.ensures.place c.args.list.now c.requires.width c.requires.height (c.tile_of-tile.ensures.count ∙ c.count.ensures) _ (rw c.bin.ensures c.requires.bin)

pub shown-height-requires-clause-begins : goal.shown-height-requires-clause-begins
shown-height-requires-clause-begins c =
    rw c.height.ensures.value (begins_in_height c.args.tiling.now c.args.k c.requires.tile c.tile_of-tile.result c.tile_of-tile.ensures.place)

pub resolve-requires-clause-in_height : goal.resolve-requires-clause-in_height
resolve-requires-clause-in_height c =
    let width : c.shown-width.result ≡ min (c.args.tiling.now.width - 8 * c.tile_of-tile.result.bx) (side_of c.tile_of-tile.result.side) = rw c.width.ensures.value at c.shown-width.ensures in
    let height : c.shown-height.result ≡ min (c.args.tiling.now.height - 8 * c.tile_of-tile.result.by) (side_of c.tile_of-tile.result.side) = rw c.height.ensures.value at c.shown-height.ensures in
    (in_picture c.args.tiling.now c.args.k c.requires.tile c.tile_of-tile.result c.tile_of-tile.ensures.place c.args.list.now c.requires.width c.requires.height _ _ width height).1

pub returns-clause-picture : goal.returns-clause-picture
returns-clause-picture c =
    let width : c.shown-width.result ≡ min (c.args.tiling.now.width - 8 * c.tile_of-tile.result.bx) (side_of c.tile_of-tile.result.side) = rw c.width.ensures.value at c.shown-width.ensures in
    let height : c.shown-height.result ≡ min (c.args.tiling.now.height - 8 * c.tile_of-tile.result.by) (side_of c.tile_of-tile.result.side) = rw c.height.ensures.value at c.shown-height.ensures in
    rw c.rect-rect.ensures (picture_in c.args.tiling.now c.args.k c.requires.tile c.tile_of-tile.result c.tile_of-tile.ensures.place c.args.list.now c.requires.width c.requires.height _ _ width height _ c.in_ok-bytes.ensures)
