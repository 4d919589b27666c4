use Rattle.std.proofs.Common.{◌+◌, map}
use Rattle.std.specs.List.{range_with_len}
use Rattle.polygons.specs.Cells.{AreZeros}
use Rattle.fills.specs.Batches.{AreFit, shape_in}
use Rattle.fills.specs.Painting.{ArePainted}
use Rattle.fills.proofs.group.Group.paint_row.Given as goal

abbrev pub invariant-loop-at : goal.invariant-loop-at
invariant-loop-at l = record {
  painted : AreFit l.polygons → ArePainted (map (shape_in l.polygons l.style) (range_with_len l.self.first l.at)) l.origin l.canvas l.row (l.row + 1) l.fn.samples l.samples;
  flags : AreZeros l.flags;
}
