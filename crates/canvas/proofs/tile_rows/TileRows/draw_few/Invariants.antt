use Rattle.std.proofs.Common.{◌≡◌, take}
use Rattle.canvas.proofs.tile_rows.TileRows.draw_few.Given as goal

abbrev pub invariant-loop-k : goal.invariant-loop-k
invariant-loop-k g l = take l.k l.chunk ≡ take l.k (g.T.Triangles.listed l.triangles)
