use Rattle.std.proofs.Common.{◌≡◌, ◌≤◌, ap, arith}
use Rattle.tiling.specs.Grid.{TileGrid}
use Rattle.tiling.proofs.Tiles.{block_start, corner_of}
use Rattle.tiling.proofs.tiling.Tiling.block_of.Goals as goal

pub returns : goal.returns
returns c =
    let grid = c.args.self.now in
    let side : c.self.inside.side ≡ grid.side = ap (λ (g : TileGrid). g.side) c.self.view_is in
    let width : grid.width ≤ 4096 = omega (arith, ap (λ (g : TileGrid). g.width) c.self.view_is) in
    let height : grid.height ≤ 4096 = omega (arith, ap (λ (g : TileGrid). g.height) c.self.view_is) in
    rw (c.pixels-blocks.ensures, side) (record {
      x = block_start grid.side c.args.column;
      y = block_start grid.side c.args.row;
      corner_x = corner_of grid.side grid.width c.args.column width c.requires.column;
      corner_y = corner_of grid.side grid.height c.args.row height c.requires.row;
    })
