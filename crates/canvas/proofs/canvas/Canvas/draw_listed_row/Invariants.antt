use Rattle.canvas.proofs.Ends.{AreTilesDrawn}
use Rattle.canvas.proofs.canvas.Canvas.draw_listed_row.Given as goal

abbrev pub invariant-loop-column : goal.invariant-loop-column
invariant-loop-column g l = AreTilesDrawn (g.T.Triangles.listed l.triangles) l.self l.row l.column l.fn.samples l.samples
