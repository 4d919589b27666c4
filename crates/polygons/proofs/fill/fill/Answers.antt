use Rattle.std.proofs.Common.{◌≡◌, inl, inr, refl, subst, ap, ◌∙◌, arith, ℕ, ◌+◌, ◌*◌, ◌/◌, ◌%◌, ◌<◌, List, length, set, slice_index, length-set}
use Rattle.std.proofs.lemmas.Bool.{cases_eq}
use Rattle.std.proofs.lemmas.Nat.Bits.{bit_at-zero}
use Rattle.std.specs.Int.{bit_at}
use Rattle.polygons.specs.Rows.{parity}
use Rattle.polygons.specs.ManyRows.{row_of}
use Rattle.polygons.specs.Cells.{word_of, flag_of}
use Rattle.polygons.specs.Spreading.{IsFilled, IsNextCarry}
use Rattle.polygons.proofs.RowLists.{row-here, row-other}
use Rattle.polygons.proofs.Filling.{before_column, filled_flag, next_carry}
use Rattle.polygons.proofs.fill.fill.Goals as goal

pub loop-words-init : goal.loop-words-init
loop-words-init c =
    let z = c.no_carry-carry.ensures in
    record {
      long = refl;
      done = λ s row k h l m. absurd (omega arith);
      rest = λ j h. refl;
      carries = λ i h r j x y w. ap (λ n. bit_at n (8 * r + j)) (z i) ∙ bit_at-zero (8 * r + j);
      carry = λ s row h l. ap (λ n. bit_at n (8 * (row % 8))) (z (word_of s row)) ∙ bit_at-zero (8 * (row % 8));
    }

word_small : (s row : ℕ) → s < 4 → row < 64 → word_of s row < 32
word_small s row h l = omega arith

pub loop-words-preserved : goal.loop-words-preserved
loop-words-preserved c =
    let v = c.loop-words.invariant in
    let n = c.loop-words.words-index in
    let old = c.args.flags.now in
    let new = set c.loop-words.flags n c.fill_column.new.words in
    let f = c.fill_column.ensures in
    let in_cur : n < length c.loop-words.flags = let l = c.loop-words-test.true in let e = v.long in omega arith in
    let same = v.rest n (omega arith) in
    let at = row-here c.loop-words.flags n c.fill_column.new.words in_cur in
    record {
      long = length-set c.loop-words.flags n c.fill_column.new.words ∙ v.long;
      done = λ s row k h l m. elim (cases_eq (k / 8) n) [
        | inl e ↦
            let i = word_of s row in
            let i_small = word_small s row h l in
            let filled = subst (λ (ws : List ℕ). IsFilled (slice_index ws i) (slice_index c.loop-words.carry i) (slice_index c.fill_column.new.words i)) same (f.filled i i_small) in
            let g = filled_flag old s row n (k % 8) (slice_index c.loop-words.carry i) (slice_index c.fill_column.new.words i) (omega arith) (v.carry s row h l) filled in
            let back : 8 * n + k % 8 ≡ k = omega arith in
            ap (λ j. bit_at (slice_index (row_of new j) i) (8 * (row % 8) + k % 8)) e ∙ ap (λ ws. bit_at (slice_index ws i) (8 * (row % 8) + k % 8)) at ∙ g ∙ ap (λ j. parity (flag_of old s row) (j + 1)) back
        | inr e ↦
            ap (λ ws. bit_at (slice_index ws (word_of s row)) (8 * (row % 8) + k % 8)) (row-other c.loop-words.flags n (k / 8) c.fill_column.new.words e) ∙ v.done s row k h l (before_column k n m e)
      ];
      rest = λ j h. row-other c.loop-words.flags n j c.fill_column.new.words (λ e. omega arith) ∙ v.rest j (omega arith);
      carries = f.carry;
      carry = λ s row h l.
          let i = word_of s row in
          let next = subst (λ (ws : List ℕ). IsNextCarry (slice_index ws i) (slice_index c.loop-words.carry i) (slice_index c.fill_column.new.carry i)) same (f.next i (word_small s row h l)) in
          next_carry old s row n (slice_index c.loop-words.carry i) (slice_index c.fill_column.new.carry i) (v.carry s row h l) next;
    }

pub returns-clause-bits : goal.returns-clause-bits
returns-clause-bits c s row k h l m =
    let all = c.loop-words-test.false in
    let long = c.loop-words.invariant.long in
    c.loop-words.invariant.done s row k h l (omega arith)
