use Rattle.polygons.specs.Cells.{AreZeros}
use Rattle.fills.specs.Batches.{AreFit, shapes_between}
use Rattle.fills.proofs.TileRows.{ArePaintedBefore}
use Rattle.fills.proofs.group.Group.paint.Given as goal

abbrev pub invariant-loop-row : goal.invariant-loop-row
invariant-loop-row l = record {
  painted : AreFit l.polygons → ArePaintedBefore (shapes_between l.polygons l.style l.self.first l.self.end) l.origin l.rows.canvas l.rows.first l.rows.end l.row l.fn.samples l.samples;
  flags : AreZeros l.flags;
}
