use Rattle.std.proofs.Common.{◌≤◌, ap, arith}
use Rattle.std.proofs.Math.Nat.{mul-le-mul}
use Rattle.tiling.specs.Grid.{TileGrid}
use Rattle.tiling.proofs.Tiles.{few_tiles}
use Rattle.tiling.proofs.tiling.Tiling.tiles_in.Goals as goal

pub overflow_mul-result : goal.overflow_mul-result
overflow_mul-result c =
    let grid = c.args.self.now in
    let height : grid.height ≤ 4096 = omega (arith, ap (λ (g : TileGrid). g.height) c.self.view_is) in
    let rows : c.args.rows ≤ 512 = omega (arith, few_tiles grid.side grid.height height) in
    omega (arith, mul-le-mul rows c.tiles_over.ensures.greatest)

pub returns-clause-greatest : goal.returns-clause-greatest
returns-clause-greatest c =
    let grid = c.args.self.now in
    let height : grid.height ≤ 4096 = omega (arith, ap (λ (g : TileGrid). g.height) c.self.view_is) in
    let rows : c.args.rows ≤ 512 = omega (arith, few_tiles grid.side grid.height height) in
    omega (arith, mul-le-mul rows c.tiles_over.ensures.greatest)
