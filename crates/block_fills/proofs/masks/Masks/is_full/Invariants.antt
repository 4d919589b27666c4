use Rattle.std.proofs.Common.{ℕ, ◌*◌, ◌<◌, IsBitSet}
use Rattle.grid.specs.Samples.{count_of}
use Rattle.block_fills.specs.Parts.{block_mask}
use Rattle.block_fills.proofs.masks.Masks.is_full.Given as goal

abbrev pub invariant-loop-part : goal.invariant-loop-part
invariant-loop-part l = (s k : ℕ) → s < 4 * l.part → s < count_of l.self.count → k < 64 → IsBitSet (block_mask l.self l.column l.row s) k
