use Rattle.std.proofs.Common.{◌≡◌, arith}
use Rattle.tiling.proofs.Columns.{row_added, tile_row_added}
use Rattle.tiling.proofs.tile_row.TileRow.join.Goals as goal

pub loop-j-preserved : goal.loop-j-preserved
loop-j-preserved c = row_added _ _ _ _ _ _ c.loop-j.invariant c.in_ok-push_row.ensures

pub returns : goal.returns
returns c =
    let all : c.loop-j.j ≡ c.height-j-end.result = omega arith in
    tile_row_added _ _ _ c.loop-j.j _ _ (rw c.height-j-end.ensures at all) c.loop-j.invariant
