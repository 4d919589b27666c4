use Rattle.canvas.proofs.Ends.{AreRowsDrawn}
use Rattle.canvas.proofs.tile_rows.TileRows.draw_many.Given as goal

abbrev pub invariant-loop-row : goal.invariant-loop-row
invariant-loop-row g l = AreRowsDrawn (g.T.Triangles.listed l.triangles) l.self.canvas l.self.first l.self.end l.row l.fn.samples l.samples
