use Rattle.std.proofs.Common.{◌≡◌, ◌↔◌, ℕ, ◌+◌, ◌*◌, ◌%◌, ◌^◌, ◌<◌, ◌≤◌, ◌++◌, List, length, slice_index, pos}
use Rattle.polygons.specs.declared.rule.Rule.TheVariants.{NonZero}
use Rattle.polygons.specs.Rows.{sum_to}
use Rattle.polygons.specs.ManyRows.{row_of}
use Rattle.polygons.specs.Summing.{IsLevelMask}
use Rattle.polygons.specs.Cells.{word_of, flag_of, cell, running_sum, IsAlike}
use Rattle.polygons.proofs.sum.sum_columns.Given as goal

abbrev pub invariant-loop-column : goal.invariant-loop-column
invariant-loop-column l =
    let old = l.initial in
    let flags : List (List ℕ) = old.downs ++ (old.ups ++ old.more) in
    record {
      downs_len : length l.downs ≡ length old.downs;
      ups_len : length l.ups ≡ length old.ups;
      more_len : length l.more ≡ length old.more;
      done : (s row k : ℕ) → s < 4 → row < 64 → k < 8 * l.column → ((flag_of l.downs s row k ≡ 1) ↔ (IsAlike (2 ^ 32) (running_sum NonZero flags l.counters s row k) (pos 0) → ⊥));
      clear : (column i : ℕ) → column < l.column → (slice_index (row_of l.ups column) i ≡ 0) × (slice_index (row_of l.more column) i ≡ 0);
      downs_rest : (column : ℕ) → l.column ≤ column → row_of l.downs column ≡ row_of old.downs column;
      ups_rest : (column : ℕ) → l.column ≤ column → row_of l.ups column ≡ row_of old.ups column;
      more_rest : (column : ℕ) → l.column ≤ column → row_of l.more column ≡ row_of old.more column;
      levels : (i : ℕ) → i < 32 → IsLevelMask (slice_index l.levels i) i l.sums;
      sums : (s row : ℕ) → s < 4 → row < 64 → IsAlike (2 ^ 32) (pos (slice_index l.sums (8 * word_of s row + row % 8))) (sum_to (cell NonZero flags l.counters s row) (8 * l.column));
    }
