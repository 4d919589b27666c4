use Rattle.std.proofs.Common.{◌≡◌, ℕ, ◌<◌, slice_index}
use Rattle.std.specs.Int.{bit_at}
use Rattle.blocks.proofs.pair.are_full.Given as goal

abbrev pub invariant-loop-s : goal.invariant-loop-s
invariant-loop-s l = (t p : ℕ) → t < l.s → p < 64 → bit_at (slice_index l.masks t) p ≡ 1
