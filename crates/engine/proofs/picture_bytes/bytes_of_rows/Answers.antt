use Rattle.std.proofs.Common.{ℕ, ◌+◌, ◌*◌, ◌≤◌, arith}
use Rattle.grid.specs.Pixels.{side_of}
use Rattle.grid.specs.declared.pixels.TileSide.{TileSide}
use Rattle.grid.specs.declared.pixels.TileSide.TheVariants.{T8, T16, T32, T64}
use Rattle.tiling.specs.Grid.{tiles_over}
use Rattle.engine.proofs.picture_bytes.bytes_of_rows.Goals as goal

-- tile rows begin in the picture, or right behind its last one
begins : (n pixels : ℕ) (side : TileSide) → n ≤ tiles_over pixels side → side_of side * n ≤ pixels + 63
begins n pixels T8 h = omega arith
begins n pixels T16 h = omega arith
begins n pixels T32 h = omega arith
begins n pixels T64 h = omega arith

pub overflow_mul-top : goal.overflow_mul-top
overflow_mul-top c =
    let within : c.args.first ≤ tiles_over c.args.list.now.height c.args.tile = omega arith in
    let top = begins c.args.first c.args.list.now.height c.args.tile within in
    rw c.pixels.ensures (omega (arith, c.height-height.ensures.value, c.height-height.ensures.greatest))
