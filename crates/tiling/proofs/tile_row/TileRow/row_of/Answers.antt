use Rattle.std.proofs.Common.{rules, refl, ap, ap₂, ℕ, ◌+◌, ◌*◌, ◌≤◌, length, ◌∙◌}
use Rattle.draw_list.specs.Picture.{output_pixel_bytes}
use Rattle.draw_list.proofs.PixelPrefix.{part_run, row_within}
use Rattle.tiling.proofs.tile_row.TileRow.row_of.Goals as goal

pub slice_bounds-result-end : goal.slice_bounds-result-end
slice_bounds-result-end c =
    let across = ap₂ ◌*◌ (c.pixel_bytes.ensures.value ∙ ap output_pixel_bytes c.output.ensures) c.column_width.ensures in
    let bytes : ℕ = c.pixel_bytes.result * c.column_width.result in
    let within : c.args.j * bytes + bytes ≤ length c.args.tile.now.bytes.items = row_within _ _ _ _ _ c.args.tile.now.bytes.items c.requires.tile.part c.args.j c.requires.row _ _ refl across in
    search rules

pub returns : goal.returns
returns c =
    let across = ap₂ ◌*◌ (c.pixel_bytes.ensures.value ∙ ap output_pixel_bytes c.output.ensures) c.column_width.ensures in
    rw c.deref.ensures.value (part_run _ _ _ _ _ c.args.tile.now.bytes.items c.requires.tile.part c.args.j c.requires.row _ _ refl across)
