use Rattle.polygons.specs.Rows.{direction}
use Rattle.polygons.specs.Cells.{signed}
use Rattle.polygons.specs.Walking.{IsWalked}
use Rattle.polygons.proofs.Plotted.{AreRowsAdded}
use Rattle.polygons.proofs.plot.plot_rows.Given as goal

abbrev pub invariant-loop-row : goal.invariant-loop-row
invariant-loop-row g l = record {
  walked : IsWalked l.starts.strip l.part l.descent l.row l.walk;
  added : AreRowsAdded l.rule l.starts.strip l.part (λ p. signed l.forward (direction l.descent.edge p)) l.row l.fn.flags l.fn.counters l.flags l.counters;
}
