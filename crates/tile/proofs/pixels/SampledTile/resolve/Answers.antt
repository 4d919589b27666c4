use Rattle.std.proofs.Common.{◌≡◌, arith}
use Rattle.draw_list.proofs.PixelPrefix.{part_of_rows}
use Rattle.tile.proofs.pixels.SampledTile.resolve.Goals as goal

pub returns : goal.returns
returns c =
    let all : c.loop-row.row ≡ c.args.height = omega arith in
    part_of_rows c.args.self.now.list.now _ _ c.args.width c.args.height _ (rw all at c.loop-row.invariant)
