use Rattle.canvas.proofs.Ends.{AreTilesDrawn}
use Rattle.canvas.proofs.canvas.Canvas.draw_row.Given as goal

abbrev pub invariant-loop-column : goal.invariant-loop-column
invariant-loop-column l = AreTilesDrawn l.chunk l.self l.row l.column l.fn.samples l.samples
