use Rattle.std.proofs.Common.{◌*◌, ◌<◌, arith}
use Rattle.tiling.proofs.Intervals.{begin_fits}
use Rattle.tiling.proofs.tile_row.TileRow.column_width.Goals as goal

pub overflow_mul-left : goal.overflow_mul-left
overflow_mul-left c =
    let small : c.pixels-side.result * c.args.column < 4096 = begin_fits _ c.pixels-side.result c.width-width.result _ _ (rw c.width-width.ensures.value c.requires) c.width-width.ensures.greatest c.pixels-side.ensures c.side.ensures in omega arith
