use Rattle.polygons.specs.Rows.{direction}
use Rattle.polygons.specs.Cells.{signed}
use Rattle.polygons.proofs.Parts.{ArePartsPlotted}
use Rattle.polygons.proofs.plot.plot_long.Given as goal

abbrev pub invariant-loop-part : goal.invariant-loop-part
invariant-loop-part g l = ArePartsPlotted l.starts.strip (λ p. signed l.forward (direction l.descent.edge p)) l.part l.fn.cells l.cells
