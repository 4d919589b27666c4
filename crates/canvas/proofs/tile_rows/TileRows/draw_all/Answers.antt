use Rattle.std.proofs.Common.{arith}
use Rattle.canvas.proofs.Ends.{one_chunk_more, all_chunks}
use Rattle.canvas.proofs.tile_rows.TileRows.draw_all.Goals as goal

pub loop-done-preserved : goal.loop-done-preserved
loop-done-preserved g c =
    let self = c.args.self.now in
    (omega arith, one_chunk_more (g.T.Triangles.listed c.args.triangles.now) self.canvas self.first self.end c.loop-done.done _ _ _ _ c.loop-done.invariant.1 c.draw_part.ensures)

pub returns : goal.returns
returns g c =
    let self = c.args.self.now in
    all_chunks (g.T.Triangles.listed c.args.triangles.now) self.canvas self.first self.end c.loop-done.done _ _ (omega (arith, c.loop-done-test.false, c.count-all.ensures)) c.loop-done.invariant.1
