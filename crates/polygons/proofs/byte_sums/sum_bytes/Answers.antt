use Rattle.std.proofs.Common.{◌≡◌, ◌≢◌, inl, inr, sym, subst, ap, ◌∙◌, arith, ℕ, ◌+◌, ◌*◌, ◌%◌, ◌^◌, ◌<◌, eqb, cond, List, slice_index}
use Rattle.std.proofs.lemmas.Bool.{cases_eq, ne_eqb}
use Rattle.std.proofs.lemmas.Nat.Bits.{bit_at-zero}
use Rattle.std.specs.Int.{bit_at}
use Rattle.polygons.specs.declared.marks.Marks.{Marks}
use Rattle.polygons.specs.Cells.{in_use}
use Rattle.polygons.specs.Summing.{run, number_in, nonzero_bit, AreInBytes}
use Rattle.polygons.proofs.RunningSums.{run_small}
use Rattle.polygons.proofs.byte_sums.sum_bytes.Goals as goal
use Rattle.polygons.proofs.byte_sums.sum_bytes.Goals.{then-marks-ne0+in_ok-bytes, else-marks-ne0}

-- ---- the numbers of cells
-- without counters
no_counters : (marks : Marks) (counters : List ℕ) (word : ℕ) (v : List ℕ) → marks.more ≡ 0 → AreInBytes 1 (λ i. bit_at marks.downs i + 4294967295 * bit_at marks.ups i) v → AreInBytes 8 (number_in marks counters word) v
no_counters marks counters word v none b = record {
  whole = b.whole;
  small = λ i h. let e = zero i in let s = b.small i h in omega arith;
  each = λ i h. let e = zero i in let s = b.each i h in omega arith;
}
  where
    zero : (i : ℕ) → in_use (bit_at marks.more i) (slice_index counters (64 * word + i)) ≡ 0
    zero i = ap (λ n. in_use n (slice_index counters (64 * word + i))) (ap (λ m. bit_at m i) none ∙ bit_at-zero i)

numbers : (c : goal.After-mask_of) → AreInBytes 8 (number_in c.args.marks c.args.counters.now c.args.word) c.if-marks-ne0.numbers
numbers c = elim c.if-marks-ne0.branch [
  | then-marks-ne0+in_ok-bytes w ↦ subst (AreInBytes 8 (number_in c.args.marks c.args.counters.now c.args.word)) (sym w.numbers-is) (w.with_counters-numbers.ensures _ _ c.firsts-numbers.ensures w.in_ok-bytes.ensures.value)
  | else-marks-ne0 w ↦ subst (AreInBytes 8 (number_in c.args.marks c.args.counters.now c.args.word)) (sym w.numbers-is) (no_counters c.args.marks c.args.counters.now c.args.word _ w.if-marks-ne0.false c.firsts-numbers.ensures)
]

-- ---- a lane and its sum
is_nonzero : (lane sum : ℕ) → sum < 2 ^ 32 → lane ≡ (sum + 128) % 2 ^ 32 → cond (eqb lane 128) 0 1 ≡ nonzero_bit sum
is_nonzero lane sum small e = elim (cases_eq sum 0) [
  | inl zero ↦
      let here : lane ≡ 128 = omega arith in
      (λ i. cond {A = ℕ} (eqb (here i) 128) 0 1) ∙ sym (ap nonzero_bit zero)
  | inr some ↦
      let other : lane ≢ 128 = λ here. some (omega arith) in
      ap (λ b. cond {A = ℕ} b 0 1) (ne_eqb lane 128 other) ∙ sym (ap (λ b. cond {A = ℕ} b 0 1) (ne_eqb sum 0 some))
]

is_sum : (lane sum : ℕ) → sum < 2 ^ 32 → lane ≡ (sum + 128) % 2 ^ 32 → (lane + 4294967168) % 2 ^ 32 ≡ sum
is_sum lane sum small e = omega arith

pub returns-clause-summed : goal.returns-clause-summed
returns-clause-summed c =
    let f = number_in c.args.marks c.args.counters.now c.args.word in
    let lanes = c.sum_cells-lanes.result in
    let word = c.args.word in
    let sum = λ (r j : ℕ). run f (8 * r) (slice_index c.args.sums.now (8 * word + r)) (j + 1) in
    let lane = λ (r j : ℕ) (h : r < 8) (l : j < 8). c.sum_cells-lanes.ensures.each f r j (numbers c) h l ∙ ap (λ start. (run f (8 * r) start (j + 1) + 128) % 2 ^ 32) (c.sums_of-old.ensures.each r h) in
    record {
      bits = λ r j h l. c.mask_of.ensures (8 * r + j) (omega arith) ∙ is_nonzero _ (sum r j) (run_small f (8 * r) _ j) (lane r j h l);
      next = λ r h. c.set_sums.ensures.next r h ∙ is_sum _ (sum r 7) (run_small f (8 * r) _ 7) (lane r 7 h (omega arith));
      other_sums = c.set_sums.ensures.other_sums;
    }
