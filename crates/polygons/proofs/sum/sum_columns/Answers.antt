use Rattle.std.proofs.Common.{◌≡◌, inl, inr, refl, sym, subst, ap, ◌∙◌, arith, ℕ, ◌+◌, ◌*◌, ◌/◌, ◌%◌, ◌^◌, ◌<◌, ◌++◌, List, length, set, length-set, slice_index, pos}
use Rattle.std.proofs.lemmas.Bool.{cases_eq, cases_lt}
use Rattle.std.proofs.lemmas.Nat.Bits.{bit_at-zero}
use Rattle.std.specs.Int.{bit_at}
use Rattle.polygons.specs.declared.marks.Marks.{Marks}
use Rattle.polygons.specs.declared.rule.Rule.TheVariants.{NonZero}
use Rattle.polygons.specs.Rows.{sum_to}
use Rattle.polygons.specs.ManyRows.{row_of}
use Rattle.polygons.specs.Cells.{word_of, cell, running_sum, IsAlike}
use Rattle.polygons.specs.Summing.{run, number_in, marks_of_word, nonzero_bit, HasFirstMarked}
use Rattle.polygons.proofs.RowLists.{row-here, row-other}
use Rattle.polygons.proofs.Totals.{alike_same}
use Rattle.polygons.proofs.Filling.{before_column}
use Rattle.polygons.proofs.Plotted.{before_of}
use Rattle.polygons.proofs.RunningSums.{no_row, marked_in, column_sum, run_small, nonzero_iff}
use Rattle.polygons.proofs.sum.sum_columns.Goals as goal

-- the flags of a word of a column that was not reached yet
same_marks : (downs ups more downs' ups' more' : List (List ℕ)) (n i : ℕ) → row_of downs' n ≡ row_of downs n → row_of ups' n ≡ row_of ups n → row_of more' n ≡ row_of more n
    → marks_of_word (row_of downs' n) (row_of ups' n) (row_of more' n) i ≡ marks_of_word (row_of downs n) (row_of ups n) (row_of more n) i
same_marks downs ups more downs' ups' more' n i d u m = λ j. marks_of_word (d j) (u j) (m j) i

pub sum_column-requires-clause-levels : goal.sum_column-requires-clause-levels
sum_column-requires-clause-levels c = c.loop-column.invariant.levels

pub sum_column-requires-clause-marked : goal.sum_column-requires-clause-marked
sum_column-requires-clause-marked c i h =
    let v = c.loop-column.invariant in
    let n = c.loop-column.column in
    let same = same_marks c.args.downs.now c.args.ups.now c.args.more.now c.loop-column.downs c.loop-column.ups c.loop-column.more n i (v.downs_rest n (omega arith)) (v.ups_rest n (omega arith)) (v.more_rest n (omega arith)) in
    subst HasFirstMarked (sym same) (marked_in c.args.downs.now c.args.ups.now c.args.more.now c.args.counters.now c.requires.downs c.requires.ups n i c.requires.marked c.loop-column-test.true h)

pub loop-column-init : goal.loop-column-init
loop-column-init c = record {
  downs_len = refl;
  ups_len = refl;
  more_len = refl;
  done = λ s row k h l m. absurd (omega arith);
  clear = λ column i h. absurd (omega arith);
  downs_rest = λ column h. refl;
  ups_rest = λ column h. refl;
  more_rest = λ column h. refl;
  levels = λ i h r j lr lj. ap (λ w. bit_at w (8 * r + j)) (c.no_carry-levels.ensures i) ∙ bit_at-zero (8 * r + j) ∙ sym (ap nonzero_bit (c.no_sums-sums.ensures (8 * i + r)));
  sums = λ s row h l. alike_same (2 ^ 32) _ _ (ap pos (c.no_sums-sums.ensures (8 * word_of s row + row % 8)));
}

word_small : (s row : ℕ) → s < 4 → row < 64 → word_of s row < 32
word_small s row h l = omega arith

pub loop-column-preserved : goal.loop-column-preserved
loop-column-preserved c =
    let v = c.loop-column.invariant in
    let n = c.loop-column.column in
    let p = c.sum_column.ensures in
    let old = c.args in
    let counters = c.args.counters.now in
    let flags : List (List ℕ) = c.args.downs.now ++ (c.args.ups.now ++ c.args.more.now) in
    let new = c.sum_column.new in
    let sums = c.loop-column.sums in
    let lt = c.loop-column-test.true in
    let in_downs : n < length c.loop-column.downs = omega (arith, v.downs_len, c.requires.downs, lt) in
    let in_ups : n < length c.loop-column.ups = omega (arith, v.ups_len, c.requires.ups, lt) in
    let in_more : n < length c.loop-column.more = omega (arith, v.more_len, c.requires.more, lt) in
    let same = λ (i : ℕ). same_marks c.args.downs.now c.args.ups.now c.args.more.now c.loop-column.downs c.loop-column.ups c.loop-column.more n i (v.downs_rest n (omega arith)) (v.ups_rest n (omega arith)) (v.more_rest n (omega arith)) in
    let total = column_sum c.args.downs.now c.args.ups.now c.args.more.now counters c.requires.downs c.requires.ups in
    record {
      downs_len = length-set c.loop-column.downs n new.downs ∙ v.downs_len;
      ups_len = length-set c.loop-column.ups n new.ups ∙ v.ups_len;
      more_len = length-set c.loop-column.more n new.more ∙ v.more_len;
      done = λ s row k h l m. elim (cases_eq (k / 8) n) [
        | inl e ↦
            let i = word_of s row in
            let r = row % 8 in
            let j = k % 8 in
            let start = slice_index sums (8 * i + r) in
            let numbers = number_in (marks_of_word (row_of c.args.downs.now n) (row_of c.args.ups.now n) (row_of c.args.more.now n) i) (row_of counters n) i in
            let value = ap (λ x. bit_at (slice_index (row_of (set c.loop-column.downs n new.downs) x) i) (8 * r + j)) e ∙ ap (λ ws. bit_at (slice_index ws i) (8 * r + j)) (row-here c.loop-column.downs n new.downs in_downs)
            ∙ p.bits i r j (word_small s row h l) (omega arith) (omega arith) ∙ ap (λ (marks : Marks). nonzero_bit (run (number_in marks (row_of counters n) i) (8 * r) start (j + 1))) (same i) in
            let place : 8 * n + (j + 1) ≡ k + 1 = omega arith in
            let alike = subst (λ x. IsAlike (2 ^ 32) (pos (run numbers (8 * r) start (j + 1))) (sum_to (cell NonZero flags counters s row) x)) place (total s row n start (j + 1) lt (omega arith) (v.sums s row h l)) in
            let iff = nonzero_iff (run numbers (8 * r) start (j + 1)) (running_sum NonZero flags counters s row k) (run_small numbers (8 * r) start j) alike in
            (λ x. iff.0 (sym value ∙ x), λ y. value ∙ iff.1 y)
        | inr e ↦
            let old = ap (λ ws. bit_at (slice_index ws (word_of s row)) (8 * (row % 8) + k % 8)) (row-other c.loop-column.downs n (k / 8) new.downs e) in
            let d = v.done s row k h l (before_column k n m e) in
            (λ x. d.0 (sym old ∙ x), λ y. old ∙ d.1 y)
      ];
      clear = λ column i h. elim (cases_eq column n) [
        | inl e ↦ (
          ap (λ x. slice_index (row_of (set c.loop-column.ups n new.ups) x) i) e ∙ ap (λ ws. slice_index ws i) (row-here c.loop-column.ups n new.ups in_ups) ∙ (p.clear i).0,
          ap (λ x. slice_index (row_of (set c.loop-column.more n new.more) x) i) e ∙ ap (λ ws. slice_index ws i) (row-here c.loop-column.more n new.more in_more) ∙ (p.clear i).1,
        )
        | inr e ↦
            let z = v.clear column i (before_of column n h e) in
            (ap (λ ws. slice_index ws i) (row-other c.loop-column.ups n column new.ups e) ∙ z.0, ap (λ ws. slice_index ws i) (row-other c.loop-column.more n column new.more e) ∙ z.1)
      ];
      downs_rest = λ column h. row-other c.loop-column.downs n column new.downs (λ e. omega arith) ∙ v.downs_rest column (omega arith);
      ups_rest = λ column h. row-other c.loop-column.ups n column new.ups (λ e. omega arith) ∙ v.ups_rest column (omega arith);
      more_rest = λ column h. row-other c.loop-column.more n column new.more (λ e. omega arith) ∙ v.more_rest column (omega arith);
      levels = p.levels;
      sums = λ s row h l.
          let i = word_of s row in
          let r = row % 8 in
          let start = slice_index sums (8 * i + r) in
          let numbers = number_in (marks_of_word (row_of c.args.downs.now n) (row_of c.args.ups.now n) (row_of c.args.more.now n) i) (row_of counters n) i in
          let value = p.next i r (word_small s row h l) (omega arith) ∙ ap (λ (marks : Marks). run (number_in marks (row_of counters n) i) (8 * r) start 8) (same i) in
          let place : 8 * n + 8 ≡ 8 * (n + 1) = omega arith in
          let alike = subst (λ x. IsAlike (2 ^ 32) (pos (run numbers (8 * r) start 8)) (sum_to (cell NonZero flags counters s row) x)) place (total s row n start 8 lt (omega arith) (v.sums s row h l)) in
          subst (λ x. IsAlike (2 ^ 32) (pos x) (sum_to (cell NonZero flags counters s row) (8 * (n + 1)))) (sym value) alike;
    }

pub returns : goal.returns
returns c =
    let v = c.loop-column.invariant in
    let f = c.loop-column-test.false in
    record {
      len = v.downs_len;
      bits = λ s row k h l m. v.done s row k h l (omega arith);
      ups = λ column i. elim (cases_lt column c.loop-column.column) [
        | inl l ↦ (v.clear column i l).0
        | inr l ↦ no_row c.loop-column.ups column i (omega (arith, v.ups_len, c.requires.ups, f, l))
      ];
      more = λ column i. elim (cases_lt column c.loop-column.column) [
        | inl l ↦ (v.clear column i l).1
        | inr l ↦ no_row c.loop-column.more column i (omega (arith, v.more_len, c.requires.more, f, l))
      ];
    }
