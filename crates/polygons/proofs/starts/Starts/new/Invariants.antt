use Rattle.std.proofs.Common.{◌≡◌, ℕ, ◌<◌, ◌≤◌, pos, ◌+ℤ◌, ◌*ℤ◌, length, slice_index, slice_index_or}
use Rattle.grid.specs.Position.{IsInBand}
use Rattle.polygons.specs.Strip.{start_of}
use Rattle.polygons.proofs.starts.Starts.new.Given as goal

abbrev pub invariant-loop-s : goal.invariant-loop-s
invariant-loop-s l = record {
  points_len : length l.points ≡ 16;
  heights_len : length l.heights ≡ 16;
  held : (s : ℕ) → s < l.s → slice_index_or l.points s (record { x = pos 0; y = pos 0 }) ≡ start_of l.strip s;
  level : (s : ℕ) → s < l.s → slice_index_or l.heights s (pos 0) ≡ (start_of l.strip s).y;
  below_len : length l.below ≡ 16;
  right_len : length l.right ≡ 16;
  downwards : (s : ℕ) → s < l.s → (start_of l.strip s).y +ℤ pos (slice_index l.below s) ≡ pos 256 *ℤ l.strip.row +ℤ pos 256;
  rightwards : (s : ℕ) → s < l.s → (start_of l.strip s).x +ℤ pos (slice_index l.right s) ≡ pos 256 *ℤ l.strip.column +ℤ pos 256;
  absent : (s : ℕ) → l.s ≤ s → s < 16 → slice_index l.below s ≡ 32768;
  below_room : (s : ℕ) → s < 16 → slice_index l.below s ≤ 32768;
  right_room : (s : ℕ) → s < 16 → slice_index l.right s ≤ 32768;
  in_band : (s : ℕ) → s < 16 → IsInBand (slice_index_or l.heights s (pos 0));
}
