use Rattle.std.proofs.Common.{◌≡◌, ◌≢◌, ℕ, ◌<◌, length, slice_index}
use Rattle.std.specs.Int.{bit_at}
use Rattle.blocks.proofs.pair.united.Given as goal

abbrev pub invariant-loop-s : goal.invariant-loop-s
invariant-loop-s l = record {
  long : length l.union ≡ 16;
  more : (t p : ℕ) → t < l.s → p < 64 → bit_at (slice_index l.masks t) p ≡ 1 → bit_at (slice_index l.union t) p ≡ 1;
  rest : (t p : ℕ) → t < l.s → p < 64 → bit_at (slice_index l.masks t) p ≢ 1 → bit_at (slice_index l.union t) p ≡ bit_at (slice_index l.stored t) p;
}
