use Rattle.std.proofs.Common.{◌/◌, ◌<◌}
use Rattle.polygons.specs.Cells.{AreZeros}
use Rattle.block_fills.specs.Parts.{RowsPaint}
use Rattle.fills.specs.Parts.{MeetsHere}
use Rattle.fills.proofs.rows.paint_rows.Given as goal

abbrev pub invariant-loop-row : goal.invariant-loop-row
invariant-loop-row l = record {
  painted : RowsPaint l.fragment l.rows.canvas l.rows.first l.rows.end (λ i j s. (j / 64 < l.row) × MeetsHere l.polygon l.origin l.rows.canvas.count i j s) l.fn.samples l.samples;
  flags : AreZeros l.flags;
}
