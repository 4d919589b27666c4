use Rattle.std.proofs.Common.{ℕ, ◌<◌, slice_index, IsBitSet}
use Rattle.block_fills.proofs.masks.are_full.Given as goal

abbrev pub invariant-loop-s : goal.invariant-loop-s
invariant-loop-s l = (j k : ℕ) → j < l.s → k < 64 → IsBitSet (slice_index l.words j) k
