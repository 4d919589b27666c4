use Rattle.std.proofs.Common.{◌≡◌, ℕ, ◌+◌, ◌*◌, ◌/◌, ◌%◌, ◌<◌, length, slice_index}
use Rattle.tile.proofs.depths.in_bytes.Given as goal

abbrev pub invariant-loop-i : goal.invariant-loop-i
invariant-loop-i l =
    (length l.bytes ≡ 16) × ((k : ℕ) → k < l.i
    → (slice_index l.bytes (2 * k) ≡ slice_index l.depths (l.from + k) / 256) × (slice_index l.bytes (2 * k + 1) ≡ slice_index l.depths (l.from + k) % 256))
