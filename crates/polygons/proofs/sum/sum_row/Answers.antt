use Rattle.std.proofs.Common.{◌≡◌, sym, ap, ◌∙◌, arith, ℕ, ◌+◌, ◌*◌, ◌/◌, ◌%◌, ◌<◌, bit_or, List, slice_index}
use Rattle.std.proofs.lemmas.Nat.Bits.{bit_at-zero}
use Rattle.std.specs.Int.{bit_at}
use Rattle.polygons.specs.Cells.{in_use}
use Rattle.polygons.specs.Summing.{run, number_in, marks_of_word, nonzero_bit}
use Rattle.polygons.specs.FourSums.{first_number}
use Rattle.polygons.proofs.ByteRows.{both}
use Rattle.polygons.proofs.NoFlags.{more_none, still}
use Rattle.polygons.proofs.RunningSums.{run-same}
use Rattle.polygons.proofs.sum.sum_row.Goals as goal

-- ---- where word i of a row of blocks lies
place : (row i : ℕ) → i / 4 ≡ row → 4 * row + i % 4 ≡ i
place row i e = omega arith

sum_place : (row i r : ℕ) → i / 4 ≡ row → 32 * row + (8 * (i % 4) + r) ≡ 8 * i + r
sum_place row i r e = omega arith

in_four : (i : ℕ) → i % 4 < 4
in_four i = omega arith

word_at : (xs four : List ℕ) (row i : ℕ) → i / 4 ≡ row → ((w : ℕ) → w < 4 → slice_index xs (4 * row + w) ≡ slice_index four w) → slice_index xs i ≡ slice_index four (i % 4)
word_at xs four row i e same = sym (ap (slice_index xs) (place row i e)) ∙ same (i % 4) (in_four i)

-- ---- without flags
no_firsts : (d u : ℕ) → d ≡ 0 → u ≡ 0 → bit_or d u ≡ 0
no_firsts d u e f = λ j. bit_or (e j) (f j)

module _ (c : goal.After-set_four) where
  none : (i : ℕ) → i / 4 ≡ c.args.row → bit_or (slice_index c.args.downs.now i) (slice_index c.args.ups.now i) ≡ 0
  none i e = let t = both _ _ c.if-are_zeros.true in no_firsts _ _ (c.are_zeros.ensures.0 t.0 i e) (c.are_zeros-2.ensures.0 t.1 i e)

  unchanged : (i r n : ℕ) → i / 4 ≡ c.args.row → r < 8 → n < 9
      → slice_index c.args.sums.now (8 * i + r) ≡ run (number_in (marks_of_word c.args.downs.now c.args.ups.now c.args.more.now i) c.args.counters.now i) (8 * r) (slice_index c.args.sums.now (8 * i + r)) n
  unchanged i r n e h l =
      let marks = marks_of_word c.args.downs.now c.args.ups.now c.args.more.now i in
      sym (still marks c.args.counters.now i (slice_index c.args.sums.now (8 * i + r)) r n (c.requires.marked i e) (none i e) (c.fits-sums (8 * i + r)) h (omega arith))

pub returns-then-are_zeros-clause-bits : goal.returns-then-are_zeros-clause-bits
returns-then-are_zeros-clause-bits c i r j e h l =
    let level = word_at _ _ c.args.row i e c.set_four.ensures.set ∙ sym (word_at c.args.levels.now _ c.args.row i e (λ w m. sym (c.four_of.ensures.each w m))) in
    ap (λ w. bit_at w (8 * r + j)) level ∙ c.requires.levels i e r j h l ∙ ap nonzero_bit (unchanged c i r (j + 1) e h (omega arith))

pub returns-then-are_zeros-clause-next : goal.returns-then-are_zeros-clause-next
returns-then-are_zeros-clause-next c i r e h = unchanged c i r 8 e h (omega arith)

pub returns-then-are_zeros-clause-clear : goal.returns-then-are_zeros-clause-clear
returns-then-are_zeros-clause-clear c i e =
    let marks = marks_of_word c.args.downs.now c.args.ups.now c.args.more.now i in
    (c.are_zeros-2.ensures.0 (both _ _ c.if-are_zeros.true).1 i e, more_none marks (c.requires.marked i e) (none c i e) (c.fits-more i))

-- ---- without counters
number : (d u d' u' more counter x : ℕ) → d' ≡ d → u' ≡ u → more ≡ 0 → first_number d' u' x ≡ bit_at d x + 4294967295 * bit_at u x + in_use (bit_at more x) counter
number d u d' u' more counter x a b none =
    let unused : in_use (bit_at more x) counter ≡ 0 = ap (λ m. in_use (bit_at m x) counter) none ∙ ap (λ m. in_use m counter) (bit_at-zero x) in
    (λ i. first_number (a i) (b i) x) ∙ omega (arith, unused)

module _ (c : goal.After-set_four-then-are_zeros-are_small-3) where
  abbrev four : ℕ → ℕ → ℕ
  four w = first_number (slice_index c.four_of-then-are_zeros-are_small.result w) (slice_index c.four_of-then-are_zeros-are_small-2.result w)

  abbrev numbers : ℕ → ℕ → ℕ
  numbers i = number_in (marks_of_word c.args.downs.now c.args.ups.now c.args.more.now i) c.args.counters.now i

  abbrev sums : ℕ → ℕ
  sums = slice_index c.args.sums.now

  total : (i r n : ℕ) → i / 4 ≡ c.args.row → run (four (i % 4)) (8 * r) (sums (32 * c.args.row + (8 * (i % 4) + r))) n ≡ run (numbers i) (8 * r) (sums (8 * i + r)) n
  total i r n e =
      let downs = word_at c.args.downs.now _ c.args.row i e (λ w m. sym (c.four_of-then-are_zeros-are_small.ensures.each w m)) in
      let ups = word_at c.args.ups.now _ c.args.row i e (λ w m. sym (c.four_of-then-are_zeros-are_small-2.ensures.each w m)) in
      let more = c.are_zeros-3.ensures.0 (both _ _ c.if-are_zeros-are_small.true).0 i e in
      run-same (numbers i) (four (i % 4)) (8 * r) (sums (8 * i + r)) _ n (ap sums (sum_place c.args.row i r e))
      (λ k l. number (slice_index c.args.downs.now i) (slice_index c.args.ups.now i) _ _ (slice_index c.args.more.now i) _ (8 * r + k) (sym downs) (sym ups) more)

  next : (i r : ℕ) → i / 4 ≡ c.args.row → r < 8 → slice_index c.sum_four-rows.new.sums (8 * i + r) ≡ run (numbers i) (8 * r) (sums (8 * i + r)) 8
  next i r e h = sym (ap (slice_index c.sum_four-rows.new.sums) (sum_place c.args.row i r e)) ∙ c.sum_four-rows.ensures.summed.next (i % 4) r (in_four i) h ∙ total i r 8 e

  bits : (i r j : ℕ) → i / 4 ≡ c.args.row → r < 8 → j < 8 → bit_at (slice_index c.sum_four-rows.result (8 * (i % 4) + r)) j ≡ nonzero_bit (run (numbers i) (8 * r) (sums (8 * i + r)) (j + 1))
  bits i r j e h l = c.sum_four-rows.ensures.summed.bits (i % 4) r j (in_four i) h l ∙ ap nonzero_bit (total i r (j + 1) e)

pub returns-then-are_zeros-are_small-clause-levels : goal.returns-then-are_zeros-are_small-clause-levels
returns-then-are_zeros-are_small-clause-levels c i e r j h l =
    ap (λ w. bit_at w (8 * r + j)) (word_at _ _ c.args.row i e c.set_four-then-are_zeros-are_small-3.ensures.set) ∙ c.words_of-then-are_zeros-are_small.ensures.each (i % 4) r j (in_four i) h l
    ∙ c.level_rows.ensures.each (8 * (i % 4) + r) j (omega arith) l ∙ bits c i r 7 e h (omega arith) ∙ sym (ap nonzero_bit (next c i r e h))

pub returns-then-are_zeros-are_small-clause-bits : goal.returns-then-are_zeros-are_small-clause-bits
returns-then-are_zeros-are_small-clause-bits c i r j e h l =
    ap (λ w. bit_at w (8 * r + j)) (word_at _ _ c.args.row i e c.set_four-then-are_zeros-are_small.ensures.set) ∙ c.words_of.ensures.each (i % 4) r j (in_four i) h l ∙ bits c i r j e h l

pub returns-then-are_zeros-are_small-clause-next : goal.returns-then-are_zeros-are_small-clause-next
returns-then-are_zeros-are_small-clause-next c i r e h = next c i r e h
