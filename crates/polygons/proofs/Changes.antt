-- Where the sums of a word's rows change between 0 and other numbers, cell after cell.
use Rattle.std.proofs.Common.{◌≡◌, ◌≢◌, inl, inr, refl, sym, ap, ◌∙◌, arith, ℕ, zero, suc, ◌+◌, ◌-◌, ◌*◌, ◌/◌, ◌%◌, ◌^◌, ◌<◌, ◌≤◌, min, max, bit_or, List, slice_index, add-one}
use Rattle.std.proofs.lemmas.Bool.{cases_eq, cases_lt}
use Rattle.std.proofs.lemmas.Nat.Bits.{bit_at_or}
use Rattle.std.specs.Int.{bit_at}
use Rattle.polygons.specs.declared.marks.Marks.{Marks}
use Rattle.polygons.specs.Cells.{in_use}
use Rattle.polygons.specs.Summing.{run, number_in, HasFirstMarked, change_bit, change_at}
use Rattle.polygons.proofs.Plotted.{before_of}

-- how many of a row's cells are among the first n of a word
abbrev pub columns : ℕ → ℕ → ℕ
columns n r = min 8 (n - 8 * r)

pub record AreChanged (numbers : ℕ → ℕ) (word : ℕ) (sums : List ℕ) (n bits : ℕ) (sums' : List ℕ) : Type 0 where
  pub few : n ≤ 64
  pub bits_done : (i : ℕ) → i < n → bit_at bits i ≡ change_at numbers word sums i
  pub bits_rest : (i : ℕ) → n ≤ i → i < 64 → bit_at bits i ≡ 0
  pub next : (r : ℕ) → r < 8 → slice_index sums' (8 * word + r) ≡ run numbers (8 * r) (slice_index sums (8 * word + r)) (columns n r)
  pub other_sums : (q : ℕ) → (q / 8 ≡ word → ⊥) → slice_index sums' q ≡ slice_index sums q

-- a cell without flags has the number 0
pub no_number : (marks : Marks) (counters : List ℕ) (word i : ℕ) → HasFirstMarked marks → i < 64 → bit_at (bit_or marks.downs marks.ups) i ≡ 0 → number_in marks counters word i ≡ 0
no_number marks counters word i marked h none =
    let o = bit_at_or marks.downs marks.ups i in
    let d : bit_at marks.downs i ≡ 0 = none_of (bit_at marks.downs i) (bit_at marks.ups i) _ o none in
    let u : bit_at marks.ups i ≡ 0 = none_or (bit_at marks.downs i) (bit_at marks.ups i) _ o none in
    let m = marked i h d u in
    let e : in_use (bit_at marks.more i) (slice_index counters (64 * word + i)) ≡ 0 = ap (λ n. in_use n (slice_index counters (64 * word + i))) m in
    omega arith
  where
    none_of : (d u v : ℕ) → v ≡ max d u → v ≡ 0 → d ≡ 0
    none_of d u v e f = omega arith

    none_or : (d u v : ℕ) → v ≡ max d u → v ≡ 0 → u ≡ 0
    none_or d u v e f = omega arith

pub run_small : (numbers : ℕ → ℕ) (from start n : ℕ) → start < 2 ^ 32 → run numbers from start n < 2 ^ 32
run_small numbers from start zero h = h
run_small numbers from start (suc n) h = omega arith

-- sums stay where numbers are zeros
pub run_still : (numbers : ℕ → ℕ) (from start m d : ℕ) → start < 2 ^ 32 → ((k : ℕ) → m ≤ k → k < m + d → numbers (from + k) ≡ 0) → run numbers from start (m + d) ≡ run numbers from start m
run_still numbers from start m zero small h = let e : m + 0 ≡ m = omega arith in ap (run numbers from start) e
run_still numbers from start m (suc d) small h =
    let e : m + suc d ≡ suc (m + d) = omega arith in
    let i = run_still numbers from start m d small (λ k l n. h k l (omega arith)) in
    let z = h (m + d) (omega arith) (omega arith) in
    let s = run_small numbers from start m small in
    rw e (omega arith)

pub no_change : (x : ℕ) → change_bit x x ≡ 0
no_change x = omega arith

pub none_changed : (numbers : ℕ → ℕ) (word : ℕ) (sums : List ℕ) (bits : ℕ) → ((i : ℕ) → bit_at bits i ≡ 0) → AreChanged numbers word sums 0 bits sums
none_changed numbers word sums bits none = record {
  few = omega arith;
  bits_done = λ i h. absurd (omega arith);
  bits_rest = λ i h l. none i;
  next = λ r h. (let e : columns 0 r ≡ 0 = omega arith in sym (ap (run numbers (8 * r) (slice_index sums (8 * word + r))) e));
  other_sums = λ q n. refl;
}

module _ (numbers : ℕ → ℕ) (word : ℕ) (sums : List ℕ) (small : (q : ℕ) → slice_index sums q < 2 ^ 32) where
  -- numbers that are zeros change nothing
  pub skipped : (n m bits : ℕ) (sums' : List ℕ) → n ≤ m → m ≤ 64 → ((i : ℕ) → n ≤ i → i < m → numbers i ≡ 0) → AreChanged numbers word sums n bits sums' → AreChanged numbers word sums m bits sums'
  skipped n m bits sums' more most none v = record {
    few = most;
    bits_done = λ i h. elim (cases_lt i n) [
      | inl l ↦ v.bits_done i l
      | inr l ↦ v.bits_rest i l (omega arith) ∙ sym (unchanged i l h)
    ];
    bits_rest = λ i h l. v.bits_rest i (omega arith) l;
    next = λ r h. v.next r h ∙ sym (still r);
    other_sums = v.other_sums;
  }
    where
      unchanged : (i : ℕ) → n ≤ i → i < m → change_at numbers word sums i ≡ 0
      unchanged i h l =
          let row = 8 * (i / 8) in
          let start = slice_index sums (8 * word + i / 8) in
          let e = run_still numbers row start (i % 8) 1 (small (8 * word + i / 8)) (λ k a b. (let place : row + k ≡ i = omega arith in ap numbers place ∙ none i h l)) in
          ap (change_bit (run numbers row start (i % 8))) e ∙ no_change (run numbers row start (i % 8))

      still : (r : ℕ) → run numbers (8 * r) (slice_index sums (8 * word + r)) (columns m r) ≡ run numbers (8 * r) (slice_index sums (8 * word + r)) (columns n r)
      still r =
          let start = slice_index sums (8 * word + r) in
          let sum : columns n r + (columns m r - columns n r) ≡ columns m r = omega arith in
          ap (run numbers (8 * r) start) (sym sum) ∙ run_still numbers (8 * r) start (columns n r) (columns m r - columns n r) (small (8 * word + r)) (λ k a b. none (8 * r + k) (omega arith) (omega arith))

  -- one number more
  pub one_changed : (n bits bits' : ℕ) (sums' sums'' : List ℕ) → n < 64
      → bit_at bits' n ≡ change_bit (slice_index sums' (8 * word + n / 8)) (slice_index sums'' (8 * word + n / 8)) → ((i : ℕ) → i < 64 → (i ≡ n → ⊥) → bit_at bits' i ≡ bit_at bits i)
      → slice_index sums'' (8 * word + n / 8) ≡ (slice_index sums' (8 * word + n / 8) + numbers n) % 2 ^ 32 → ((q : ℕ) → q ≢ 8 * word + n / 8 → slice_index sums'' q ≡ slice_index sums' q)
      → AreChanged numbers word sums n bits sums' → AreChanged numbers word sums (n + 1) bits' sums''
  one_changed n bits bits' sums' sums'' h here apart sum other_sums v = record {
    few = omega arith;
    bits_done = λ i l. elim (cases_eq i n) [
      | inl e ↦ ap (bit_at bits') e ∙ here ∙ (λ j. change_bit (before j) (after j)) ∙ sym (ap (change_at numbers word sums) e)
      | inr e ↦ apart i (omega arith) e ∙ v.bits_done i (before_of i n l e)
    ];
    bits_rest = λ i l m. apart i m (λ e. omega arith) ∙ v.bits_rest i (omega arith) m;
    next = λ r l. elim (cases_eq r (n / 8)) [
      | inl e ↦
          let k : columns (n + 1) r ≡ n % 8 + 1 = omega arith in
          ap (λ x. slice_index sums'' (8 * word + x)) e ∙ after ∙ sym (ap (λ x. run numbers (8 * x) (slice_index sums (8 * word + x)) (n % 8 + 1)) e) ∙ sym (ap (run numbers (8 * r) (slice_index sums (8 * word + r))) k)
      | inr e ↦
          let k : columns (n + 1) r ≡ columns n r = same_columns r e in
          other_sums (8 * word + r) (λ x. e (omega arith)) ∙ v.next r l ∙ sym (ap (run numbers (8 * r) (slice_index sums (8 * word + r))) k)
    ];
    other_sums = λ q x. other_sums q (λ e. x (omega arith)) ∙ v.other_sums q x;
  }
    where
      row : ℕ
      row = 8 * word + n / 8

      same_columns : (r : ℕ) → (r ≡ n / 8 → ⊥) → columns (n + 1) r ≡ columns n r
      same_columns r e = elim (cases_lt r (n / 8)) [
        | inl l ↦ omega arith
        | inr l ↦ elim (cases_eq r (n / 8)) [ inl x ↦ absurd (e x) | inr x ↦ absurd_or r e l ]
      ]
        where
          absurd_or : (r : ℕ) → (r ≡ n / 8 → ⊥) → n / 8 ≤ r → columns (n + 1) r ≡ columns n r
          absurd_or r e l = elim (cases_lt (n / 8) r) [ inl m ↦ omega arith | inr m ↦ absurd (e (omega arith)) ]

      before : slice_index sums' row ≡ run numbers (8 * (n / 8)) (slice_index sums row) (n % 8)
      before = let k : columns n (n / 8) ≡ n % 8 = omega arith in v.next (n / 8) (omega arith) ∙ ap (run numbers (8 * (n / 8)) (slice_index sums row)) k

      after : slice_index sums'' row ≡ run numbers (8 * (n / 8)) (slice_index sums row) (n % 8 + 1)
      after =
          let place : n ≡ 8 * (n / 8) + n % 8 = omega arith in
          let c : numbers n ≡ numbers (8 * (n / 8) + n % 8) = ap numbers place in
          sum ∙ (rw add-one (λ j. (before j + c j) % 2 ^ 32))
