use Rattle.std.proofs.Common.{◌≡◌, List, drop}
use Rattle.checks.specs.Checking.{Pass}
use Rattle.lanes.specs.declared.block_samples.BlockSamples.{BlockSamples}
use Rattle.canvas.specs.Drawing.{HaveEnds}
use Rattle.batch.specs.Ids.{drawn_as}
use Rattle.batch.specs.OwnIndices.{indices_given}
use Rattle.batch.specs.Seen.{draws_seen}
use Rattle.batch.specs.Checks.{draws_checks}
use Rattle.batch.proofs.drawing.draw_all.Given as goal

abbrev pub invariant-loop-draw : goal.invariant-loop-draw
invariant-loop-draw g l = record {
  rows : l.piece.rows ≡ l.fn.piece.rows;
  same : l.piece.planes.ghost_name ≡ l.fn.piece.planes.ghost_name;
  passed : Pass (draws_checks l.origin.x l.origin.y l.draw-index l.next_ids (drop l.draw-index l.listed) (g.V.Vertices.listed l.vertices_left) (indices_given l.indices_left));
  drawn : (new : List BlockSamples)
      → HaveEnds (drawn_as l.next_ids (draws_seen l.has_alpha l.origin.x l.origin.y (drop l.draw-index l.listed) (g.V.Vertices.listed l.vertices_left) (indices_given l.indices_left))) l.fn.piece.rows.canvas l.fn.piece.rows.first l.fn.piece.rows.end l.piece.planes.now new
      → HaveEnds (drawn_as l.fn.ids (draws_seen l.has_alpha l.origin.x l.origin.y l.listed (g.V.Vertices.listed l.vertices) (indices_given l.indices))) l.fn.piece.rows.canvas l.fn.piece.rows.first l.fn.piece.rows.end l.fn.piece.planes.now new;
}
