use Rattle.std.proofs.Common.{◌≡◌, ℕ, ◌+◌, ◌*◌, ◌/◌, ◌<◌, ◌≤◌, slice_index}
use Rattle.std.specs.Int.{bit_at}
use Rattle.polygons.specs.Summing.{run, number_in, marks_of_word, nonzero_bit, IsLevelMask}
use Rattle.polygons.proofs.sum.sum_column.Given as goal

abbrev pub invariant-loop-row : goal.invariant-loop-row
invariant-loop-row l =
    let old = l.initial in
    let numbers = λ (i : ℕ). number_in (marks_of_word old.downs old.ups old.more i) l.counters i in
    record {
      bits : (i r j : ℕ) → i / 4 < l.row → r < 8 → j < 8 → bit_at (slice_index l.downs i) (8 * r + j) ≡ nonzero_bit (run (numbers i) (8 * r) (slice_index old.sums (8 * i + r)) (j + 1));
      next : (i r : ℕ) → i / 4 < l.row → r < 8 → slice_index l.sums (8 * i + r) ≡ run (numbers i) (8 * r) (slice_index old.sums (8 * i + r)) 8;
      clear : (i : ℕ) → i / 4 < l.row → (slice_index l.ups i ≡ 0) × (slice_index l.more i ≡ 0);
      levels_done : (i : ℕ) → i / 4 < l.row → IsLevelMask (slice_index l.levels i) i l.sums;
      rest : (i : ℕ) → l.row ≤ i / 4 → (marks_of_word l.downs l.ups l.more i ≡ marks_of_word old.downs old.ups old.more i) × (slice_index l.levels i ≡ slice_index old.levels i);
      sums_rest : (q : ℕ) → l.row ≤ q / 32 → slice_index l.sums q ≡ slice_index old.sums q;
    }
