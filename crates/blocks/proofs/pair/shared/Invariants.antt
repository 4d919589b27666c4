use Rattle.std.proofs.Common.{◌≡◌, ◌↔◌, ℕ, ◌<◌, length, slice_index}
use Rattle.std.specs.Int.{bit_at}
use Rattle.blocks.proofs.pair.shared.Given as goal

abbrev pub invariant-loop-s : goal.invariant-loop-s
invariant-loop-s l = record {
  long : length l.both ≡ 16;
  each : (t p : ℕ) → t < l.s → p < 64 → (bit_at (slice_index l.both t) p ≡ 1) ↔ ((bit_at (slice_index l.stored t) p ≡ 1) × (bit_at (slice_index l.masks t) p ≡ 1));
}
