-- The samples before this one are marked.
use Rattle.std.proofs.Common.{◌<◌}
use Rattle.polygons.specs.Strip.{strip_sample}
use Rattle.strokes.specs.Marking.{Marks}
use Rattle.strokes.specs.Pieces.{IsInPiece}
use Rattle.strokes.proofs.blocks.Blocks.mark.Given as goal

abbrev pub invariant-loop-s : goal.invariant-loop-s
invariant-loop-s l = Marks l.self (λ t j k. (t < l.s) × IsInPiece l.piece (strip_sample l.self.strip t j k)) l.fn.flags l.flags
