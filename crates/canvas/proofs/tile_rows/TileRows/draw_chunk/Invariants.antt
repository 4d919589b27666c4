use Rattle.canvas.proofs.Ends.{AreRowsDrawn}
use Rattle.canvas.proofs.tile_rows.TileRows.draw_chunk.Given as goal

abbrev pub invariant-loop-row : goal.invariant-loop-row
invariant-loop-row l = AreRowsDrawn l.chunk l.self.canvas l.self.first l.self.end l.row l.fn.samples l.samples
