use Rattle.std.proofs.Common.{◌≡◌, ℕ, ◌+◌, ◌*◌, ◌%◌, ◌<◌, ◌≤◌, length, slice_index}
use Rattle.std.specs.Int.{bit_at}
use Rattle.polygons.specs.Rows.{parity}
use Rattle.polygons.specs.ManyRows.{row_of}
use Rattle.polygons.specs.Cells.{word_of, flag_of}
use Rattle.polygons.specs.Spreading.{IsCarry}
use Rattle.polygons.proofs.fill.fill.Given as goal

abbrev pub invariant-loop-words : goal.invariant-loop-words
invariant-loop-words l = record {
  long : length l.flags ≡ length l.initial.flags;
  done : (s row k : ℕ) → s < 4 → row < 64 → k < 8 * l.words-index → flag_of l.flags s row k ≡ parity (flag_of l.initial.flags s row) (k + 1);
  rest : (j : ℕ) → l.words-index ≤ j → row_of l.flags j ≡ row_of l.initial.flags j;
  carries : (i : ℕ) → i < 32 → IsCarry (slice_index l.carry i);
  carry : (s row : ℕ) → s < 4 → row < 64 → bit_at (slice_index l.carry (word_of s row)) (8 * (row % 8)) ≡ parity (flag_of l.initial.flags s row) (8 * l.words-index);
}
