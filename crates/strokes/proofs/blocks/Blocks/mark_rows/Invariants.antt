-- The rows before this one are marked.
use Rattle.std.proofs.Common.{◌≡◌, ◌<◌}
use Rattle.polygons.specs.Strip.{strip_sample}
use Rattle.strokes.specs.Marking.{Marks}
use Rattle.strokes.specs.Pieces.{IsInPiece}
use Rattle.strokes.proofs.blocks.Blocks.mark_rows.Given as goal

abbrev pub invariant-loop-row : goal.invariant-loop-row
invariant-loop-row l =
    Marks l.self (λ t j k. ((t ≡ l.s) × (j < l.row)) × IsInPiece l.piece (strip_sample l.self.strip t j k)) l.fn.flags l.flags
