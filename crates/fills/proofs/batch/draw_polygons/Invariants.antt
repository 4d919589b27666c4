use Rattle.std.proofs.Common.{◌≡◌, ◌≤◌, ◌-◌, length, map}
use Rattle.std.specs.List.{range_with_len}
use Rattle.polygons.specs.Cells.{AreZeros}
use Rattle.fills.specs.Batches.{AreFit, shape_in}
use Rattle.fills.specs.Painting.{ArePainted}
use Rattle.fills.proofs.batch.draw_polygons.Given as goal

abbrev pub invariant-loop-first : goal.invariant-loop-first
invariant-loop-first l = record {
  rows : l.piece.rows ≡ l.fn.piece.rows;
  same : l.piece.planes.ghost_name ≡ l.fn.piece.planes.ghost_name;
  within : l.first ≤ length l.polygons.polygon_ends.now;
  painted : AreFit l.polygons → ArePainted (map (shape_in l.polygons l.style) (range_with_len 0 l.first)) l.origin l.fn.piece.rows.canvas l.fn.piece.rows.first l.fn.piece.rows.end l.fn.piece.planes.now l.piece.planes.now;
  flags : AreZeros l.flags;
}

abbrev pub decreases-loop-first : goal.decreases-loop-first
decreases-loop-first l = length l.polygons.polygon_ends.now - l.first
