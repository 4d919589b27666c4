use Rattle.block_fills.specs.Parts.{IsInColumn, TilePaints}
use Rattle.block_fills.proofs.column.paint_column.Given as goal

abbrev pub invariant-loop-row : goal.invariant-loop-row
invariant-loop-row g l = TilePaints l.fragment l.tile (IsInColumn l.fragment.state l.tile l.bx l.row l.masks l.k) l.fn.samples l.samples
