use Rattle.std.proofs.Common.{◌*◌, ◌<◌, arith}
use Rattle.tiling.proofs.Intervals.{begin_fits}
use Rattle.tiling.proofs.tile_row.TileRow.height.Goals as goal

pub overflow_mul-top : goal.overflow_mul-top
overflow_mul-top c =
    let small : c.pixels-side.result * c.args.self.now.row < 4096 = begin_fits _ c.pixels-side.result c.height-height.result _ _ (rw c.height-height.ensures.value c.args.self.now.within) c.height-height.ensures.greatest c.pixels-side.ensures c.side.ensures in omega arith
