use Rattle.std.proofs.Common.{◌≡◌, ap, ◌∙◌, arith, ℕ, zero, suc, ◌+◌, ◌*◌, ◌/◌, ◌%◌, ◌<◌, Bool, true, false, cond, eqb, List, slice_index}
use Rattle.std.specs.Int.{bit_at}
use Rattle.polygons.specs.Rows.{parity}
use Rattle.polygons.specs.Summing.{run, number_in, nonzero_bit, change_bit, change_at}
use Rattle.polygons.proofs.sum.sum_word.Goals as goal

one_bit : (x : ℕ) → nonzero_bit x < 2
one_bit x = either (eqb x 0)
  where
    either : (b : Bool) → cond {A = ℕ} b 0 1 < 2
    either true = omega arith
    either false = omega arith

-- the changes up to a cell, with whether the sum before them was other than 0, say whether the sum there is
telescoped : (numbers : ℕ → ℕ) (from start m : ℕ) (flags : ℕ → ℕ) → ((k : ℕ) → k < m → flags k ≡ change_bit (run numbers from start k) (run numbers from start (k + 1)))
    → (nonzero_bit start + parity flags m) % 2 ≡ nonzero_bit (run numbers from start m)
telescoped numbers from start zero flags h = let b = one_bit start in omega arith
telescoped numbers from start (suc m) flags h =
    let i = telescoped numbers from start m flags (λ k l. h k (omega arith)) in
    let e = h m (omega arith) in
    let b = one_bit (run numbers from start (m + 1)) in
    let next : run numbers from start (m + 1) ≡ run numbers from start (suc m) = (let one : m + 1 ≡ suc m = omega arith in ap (run numbers from start) one) in
    let f = ap nonzero_bit next in
    omega arith

change_in : (numbers : ℕ → ℕ) (word : ℕ) (sums : List ℕ) (r k : ℕ) → r < 8 → k < 8
    → change_at numbers word sums (8 * r + k) ≡ change_bit (run numbers (8 * r) (slice_index sums (8 * word + r)) k) (run numbers (8 * r) (slice_index sums (8 * word + r)) (k + 1))
change_in numbers word sums r k h l =
    let a : (8 * r + k) / 8 ≡ r = omega arith in
    let b : (8 * r + k) % 8 ≡ k = omega arith in
    λ i. change_bit (run numbers (8 * a i) (slice_index sums (8 * word + a i)) (b i)) (run numbers (8 * a i) (slice_index sums (8 * word + a i)) (b i + 1))

pub returns : goal.returns
returns c =
    let numbers = number_in c.args.marks c.args.counters.now c.args.word in
    let word = c.args.word in
    let old = c.args.sums.now in
    let kept = c.sum_bytes.new.sums in
    let same : kept ≡ old = c.in_default.ensures.same in
    let start = λ (r : ℕ). ap (λ v. slice_index v (8 * word + r)) same in
    record {
      bits = λ r j h l.
          let carry = c.last_column.ensures.bits r h ∙ c.requires.level r 7 h (omega arith) in
          let flags = λ (k : ℕ). bit_at c.changes-changes.result (8 * r + k) in
          c.fill_rows.ensures.filled r j h l ∙ ap (λ b. (b + parity flags (j + 1)) % 2) carry
          ∙ telescoped numbers (8 * r) (slice_index old (8 * word + r)) (j + 1) flags (λ k m. c.changes-changes.ensures.changes (8 * r + k) (omega arith) ∙ ap (λ v. change_at numbers word v (8 * r + k)) same ∙ change_in numbers word old r k h (omega arith));
      next = λ r h. c.changes-changes.ensures.next r h ∙ ap (λ s. run numbers (8 * r) s 8) (start r);
      other_sums = λ q n. c.changes-changes.ensures.other_sums q n ∙ ap (λ v. slice_index v q) same;
    }
