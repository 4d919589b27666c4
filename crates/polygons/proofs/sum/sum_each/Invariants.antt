use Rattle.std.proofs.Common.{◌≡◌, ℕ, ◌+◌, ◌*◌, ◌/◌, ◌<◌, ◌≤◌, slice_index}
use Rattle.std.specs.Int.{bit_at}
use Rattle.polygons.specs.Summing.{run, number_in, marks_of_word, nonzero_bit, IsLevelMask}
use Rattle.polygons.proofs.sum.sum_each.Given as goal

abbrev pub invariant-loop-i : goal.invariant-loop-i
invariant-loop-i l =
    let old = l.initial in
    let numbers = λ (i : ℕ). number_in (marks_of_word old.downs old.ups old.more i) l.counters i in
    record {
      begun : 4 * l.row ≤ l.i;
      inside : l.i ≤ 4 * l.row + 4;
      bits : (i r j : ℕ) → 4 * l.row ≤ i → i < l.i → r < 8 → j < 8 → bit_at (slice_index l.downs i) (8 * r + j) ≡ nonzero_bit (run (numbers i) (8 * r) (slice_index old.sums (8 * i + r)) (j + 1));
      next : (i r : ℕ) → 4 * l.row ≤ i → i < l.i → r < 8 → slice_index l.sums (8 * i + r) ≡ run (numbers i) (8 * r) (slice_index old.sums (8 * i + r)) 8;
      clear : (i : ℕ) → 4 * l.row ≤ i → i < l.i → (slice_index l.ups i ≡ 0) × (slice_index l.more i ≡ 0);
      levels_done : (i : ℕ) → 4 * l.row ≤ i → i < l.i → IsLevelMask (slice_index l.levels i) i l.sums;
      rest : (i : ℕ) → (4 * l.row ≤ i → i < l.i → ⊥) → (marks_of_word l.downs l.ups l.more i ≡ marks_of_word old.downs old.ups old.more i) × (slice_index l.levels i ≡ slice_index old.levels i);
      sums_rest : (q : ℕ) → (4 * l.row ≤ q / 8 → q / 8 < l.i → ⊥) → slice_index l.sums q ≡ slice_index old.sums q;
    }
