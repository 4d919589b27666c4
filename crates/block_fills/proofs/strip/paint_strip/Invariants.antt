use Rattle.std.proofs.Common.{◌≡◌, ◌+◌, ◌-◌, ◌≤◌, length}
use Rattle.block_fills.specs.Parts.{IsFlagged, RowsPaint}
use Rattle.block_fills.proofs.strip.paint_strip.Given as goal

abbrev pub invariant-loop-k : goal.invariant-loop-k
invariant-loop-k g l = record {
  within : l.k ≤ l.masks.columns;
  samples : length l.samples ≡ length l.fn.samples;
  painted : RowsPaint l.fragment l.canvas l.row (l.row + 1) (IsFlagged l.fragment.state l.first l.k l.masks) l.fn.samples l.samples;
}

abbrev pub decreases-loop-k : goal.decreases-loop-k
decreases-loop-k g l = l.masks.columns - l.k
