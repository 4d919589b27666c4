use Rattle.std.proofs.Common.{◌≡◌, ℕ, ◌<◌, slice_index}
use Rattle.polygons.specs.ManyRows.{row_of}
use Rattle.fills.proofs.scratch.clear.Given as goal

abbrev pub invariant-loop-words : goal.invariant-loop-words
invariant-loop-words l = (column i : ℕ) → column < l.words-index → slice_index (row_of l.flags column) i ≡ 0
