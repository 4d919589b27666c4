use Rattle.std.proofs.Common.{ℕ, ◌<◌, ◌≤◌, IsBitSet}
use Rattle.grid.specs.Samples.{count_of}
use Rattle.block_fills.specs.Parts.{block_mask}
use Rattle.block_fills.proofs.whole.are_full_columns.Given as goal

abbrev pub invariant-loop-column : goal.invariant-loop-column
invariant-loop-column l =
    (column row s bit : ℕ) → l.k ≤ column → column < l.column → row < 8 → s < count_of l.masks.count → bit < 64 → IsBitSet (block_mask l.masks column row s) bit

abbrev pub invariant-loop-row : goal.invariant-loop-row
invariant-loop-row l = (row s bit : ℕ) → row < l.row → s < count_of l.masks.count → bit < 64 → IsBitSet (block_mask l.masks l.column row s) bit
