use Rattle.std.proofs.Common.{◌≡◌, ap, arith}
use Rattle.tiling.specs.Grid.{TileGrid, IsInPicture}
use Rattle.tiling.proofs.Tiles.{tile_of_pixel}
use Rattle.tiling.proofs.tiling.Tiling.tile_of.Goals as goal

pub returns : goal.returns
returns c =
    let grid = c.args.self.now in
    let side : c.self.inside.side ≡ grid.side = ap (λ (g : TileGrid). g.side) c.self.view_is in
    let width : c.self.inside.width ≡ grid.width = ap (λ (g : TileGrid). g.width) c.self.view_is in
    let height : c.self.inside.height ≡ grid.height = ap (λ (g : TileGrid). g.height) c.self.view_is in
    let inside : IsInPicture grid c.args.px c.args.py = record { column = omega arith; row = omega arith } in
    rw (c.pixels-side.ensures, c.columns.ensures.value, side) (tile_of_pixel grid c.args.px c.args.py inside)
