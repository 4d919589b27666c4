-- Counters that are summed from the left, modulo 2 ^ 32.
use Rattle.std.proofs.Common.{◌≡◌, ◌≢◌, inl, inr, refl, sym, ap, ◌∙◌, arith, ℕ, zero, suc, ◌+◌, ◌*◌, ◌/◌, ◌%◌, ◌^◌, ◌<◌, ◌≤◌, ◌⊎◌, ◌↔◌, subst, Bool, true, false, cond, eqb, List, [], ◌∷◌, ◌++◌, length, add-one, set, slice_index, get_or-set_same, get_or-set_other, ℤ, pos, neg_ℤ, ◌+ℤ◌, ◌-ℤ◌, ◌*ℤ◌}
use Rattle.std.proofs.lemmas.Int.{ints}
use Rattle.std.proofs.lemmas.Bool.Decides.{eqb_tells}
use Rattle.std.proofs.lemmas.List.{get_or_append_left, get_or-append-add}
use Rattle.std.specs.Int.{bit_at}
use Rattle.polygons.specs.declared.marks.Marks.{Marks}
use Rattle.polygons.specs.declared.rule.Rule.TheVariants.{NonZero}
use Rattle.polygons.specs.Rows.{sum_to}
use Rattle.polygons.specs.ManyRows.{row_of}
use Rattle.polygons.specs.Cells.{word_of, counter_at, down_flag, up_flag, more_flag, in_use, cell, IsAlike, AreMarked}
use Rattle.polygons.specs.Summing.{run, number_in, marks_of_word, nonzero_bit, HasFirstMarked}
use Rattle.polygons.proofs.Plotted.{times_sum}

pub run-same : (f g : ℕ → ℕ) (from a b n : ℕ) → b ≡ a → ((k : ℕ) → k < n → g (from + k) ≡ f (from + k)) → run g from b n ≡ run f from a n
run-same f g from a b zero e h = e
run-same f g from a b (suc n) e h =
    let i = run-same f g from a b n e (λ k l. h k (omega arith)) in
    let x = h n (omega arith) in
    λ j. (i j + x j) % 2 ^ 32

pub run-none : (numbers : ℕ → ℕ) (from start n : ℕ) → start < 2 ^ 32 → ((k : ℕ) → k < n → numbers (from + k) ≡ 0) → run numbers from start n ≡ start
run-none numbers from start zero small h = refl
run-none numbers from start (suc n) small h =
    let i = run-none numbers from start n small (λ k l. h k (omega arith)) in
    let x = h n (omega arith) in
    omega arith

pub run_alike : (numbers : ℕ → ℕ) (cells : ℕ → ℤ) (from start n : ℕ) → ((k : ℕ) → k < n → IsAlike (2 ^ 32) (pos (numbers (from + k))) (cells k)) → IsAlike (2 ^ 32) (pos (run numbers from start n)) (pos start +ℤ sum_to cells n)
run_alike numbers cells from start zero h = record { times = pos 0; is = omega (arith, ints) }
run_alike numbers cells from start (suc n) h =
    let i = run_alike numbers cells from start n (λ k l. h k (omega arith)) in
    let e = i.is in
    let c = h n (omega arith) in
    let f = c.is in
    record { times = (i.times +ℤ c.times) -ℤ pos ((run numbers from start n + numbers (from + n)) / 2 ^ 32); is = omega (arith, ints) }

-- ---- one element that is set
pub set_same : (xs : List ℕ) (n x i : ℕ) → n < length xs → i ≡ n → slice_index (set xs n x) i ≡ x
set_same xs n x i h e = let same : slice_index (set xs n x) n ≡ x = rw get_or-set_same refl in ap (slice_index (set xs n x)) e ∙ same

pub set_apart : (xs : List ℕ) (n x i : ℕ) → (i ≡ n → ⊥) → slice_index (set xs n x) i ≡ slice_index xs i
set_apart xs n x i apart = let other : i ≢ n = apart in rw get_or-set_other refl

pub past_end : (xs : List ℕ) (i : ℕ) → length xs ≤ i → slice_index xs i ≡ 0
past_end [] i h = refl
past_end (x ∷ xs) zero h = absurd (omega arith)
past_end (x ∷ xs) (suc i) h = past_end xs i (omega arith)

pub no_row : (xs : List (List ℕ)) (column i : ℕ) → length xs ≤ column → slice_index (row_of xs column) i ≡ 0
no_row [] column i h = refl
no_row (x ∷ xs) zero i h = absurd (omega arith)
no_row (x ∷ xs) (suc column) i h = no_row xs column i (omega arith)

-- ---- sums of a strip
pub sum-append : (f : ℕ → ℤ) (m n : ℕ) → sum_to f (m + n) ≡ sum_to f m +ℤ sum_to (λ k. f (m + k)) n
sum-append f m zero = let e : m + 0 ≡ m = omega arith in rw e (omega (arith, ints))
sum-append f m (suc n) =
    let i = sum-append f m n in
    let e : m + suc n ≡ suc (m + n) = omega arith in
    rw e (omega (arith, ints))

pub run_small : (numbers : ℕ → ℕ) (from start n : ℕ) → run numbers from start (n + 1) < 2 ^ 32
run_small numbers from start n = rw add-one (omega arith)

pub alike_more : (m : ℕ) (x y z t : ℤ) → IsAlike m x (y +ℤ z) → IsAlike m y t → IsAlike m x (t +ℤ z)
alike_more m x y z t h k = record { times = h.times +ℤ k.times; is = let i = h.is in let j = k.is in let d = times_sum (pos m) h.times k.times in omega (arith, ints) }

nonzero_or_not : (x : ℕ) (t a : ℤ) (b : Bool) → x < 2 ^ 32 → pos x ≡ t +ℤ pos (2 ^ 32) *ℤ a → ((b ≡ true) × (x ≡ 0)) ⊎ ((b ≡ false) × (x ≢ 0)) → (cond {A = ℕ} b 0 1 ≡ 1) ↔ (IsAlike (2 ^ 32) t (pos 0) → ⊥)
nonzero_or_not x t a b small e (inl k) =
    let zero_b = k.0 in
    let none : cond {A = ℕ} b 0 1 ≡ 0 = rw zero_b refl in
    let x_is = k.1 in
    (λ one. absurd (omega arith), λ apart. absurd (apart (record { times = neg_ℤ a; is = omega (arith, ints) })))
nonzero_or_not x t a b small e (inr k) =
    let one_b = k.0 in
    let some : cond {A = ℕ} b 0 1 ≡ 1 = rw one_b refl in
    let other = k.1 in
    (λ one alike. other (let i = alike.is in no_multiple x t a alike.times small e i), λ apart. some)
  where
    no_multiple : (x : ℕ) (t a b : ℤ) → x < 2 ^ 32 → pos x ≡ t +ℤ pos (2 ^ 32) *ℤ a → t ≡ pos 0 +ℤ pos (2 ^ 32) *ℤ b → x ≡ 0
    no_multiple x t a b h e f = omega (arith, ints)

pub nonzero_iff : (x : ℕ) (t : ℤ) → x < 2 ^ 32 → IsAlike (2 ^ 32) (pos x) t → (nonzero_bit x ≡ 1) ↔ (IsAlike (2 ^ 32) t (pos 0) → ⊥)
nonzero_iff x t small h = nonzero_or_not x t h.times (eqb x 0) small h.is (eqb_tells x 0)

-- ---- a column of a strip, whose flags lie in three lists
-- the number of a cell
number_alike : (d u m c : ℕ) → IsAlike (2 ^ 32) (pos (d + 4294967295 * u + in_use m c)) ((pos d -ℤ pos u) +ℤ pos (in_use m c))
number_alike d u m c = record { times = pos u; is = omega (arith, ints) }

module _ (downs ups more counters : List (List ℕ)) (downs_len : length downs ≡ length counters) (ups_len : length ups ≡ length counters) where
  abbrev flags : List (List ℕ)
  flags = downs ++ (ups ++ more)

  first_columns : (n : ℕ) → n < length counters → row_of flags n ≡ row_of downs n
  first_columns n h = get_or_append_left downs (ups ++ more) [] n (omega arith)

  next_columns : (n : ℕ) → n < length counters → row_of flags (n + length counters) ≡ row_of ups n
  next_columns n h =
      let place : n + length counters ≡ length downs + n = omega arith in
      ap (row_of flags) place ∙ get_or-append-add downs (ups ++ more) n [] ∙ get_or_append_left ups more [] n (omega arith)

  last_columns : (n : ℕ) → n < length counters → row_of flags (n + 2 * length counters) ≡ row_of more n
  last_columns n h =
      let place : n + 2 * length counters ≡ length downs + (length ups + n) = omega arith in
      ap (row_of flags) place ∙ get_or-append-add downs (ups ++ more) (length ups + n) [] ∙ get_or-append-add ups more n []

  -- the flags of word i of a column
  abbrev marks : ℕ → ℕ → Marks
  marks n i = marks_of_word (row_of downs n) (row_of ups n) (row_of more n) i

  down_in : (s row n k : ℕ) → n < length counters → k < 8 → down_flag flags counters s row (8 * n + k) ≡ bit_at (marks n (word_of s row)).downs (8 * (row % 8) + k)
  down_in s row n k h l =
      let a : (8 * n + k) / 8 ≡ n = omega arith in
      let b : (8 * n + k) % 8 ≡ k = omega arith in
      (λ j. bit_at (slice_index (row_of flags (a j)) (word_of s row)) (8 * (row % 8) + b j)) ∙ ap (λ ws. bit_at (slice_index ws (word_of s row)) (8 * (row % 8) + k)) (first_columns n h)

  up_in : (s row n k : ℕ) → n < length counters → k < 8 → up_flag flags counters s row (8 * n + k) ≡ bit_at (marks n (word_of s row)).ups (8 * (row % 8) + k)
  up_in s row n k h l =
      let a : (8 * n + k + 8 * length counters) / 8 ≡ n + length counters = omega arith in
      let b : (8 * n + k + 8 * length counters) % 8 ≡ k = omega arith in
      (λ j. bit_at (slice_index (row_of flags (a j)) (word_of s row)) (8 * (row % 8) + b j)) ∙ ap (λ ws. bit_at (slice_index ws (word_of s row)) (8 * (row % 8) + k)) (next_columns n h)

  more_in : (s row n k : ℕ) → n < length counters → k < 8 → more_flag flags counters s row (8 * n + k) ≡ bit_at (marks n (word_of s row)).more (8 * (row % 8) + k)
  more_in s row n k h l =
      let a : (8 * n + k + 16 * length counters) / 8 ≡ n + 2 * length counters = omega arith in
      let b : (8 * n + k + 16 * length counters) % 8 ≡ k = omega arith in
      (λ j. bit_at (slice_index (row_of flags (a j)) (word_of s row)) (8 * (row % 8) + b j)) ∙ ap (λ ws. bit_at (slice_index ws (word_of s row)) (8 * (row % 8) + k)) (last_columns n h)

  counter_in : (s row n k : ℕ) → k < 8 → counter_at counters s row (8 * n + k) ≡ slice_index (row_of counters n) (64 * word_of s row + (8 * (row % 8) + k))
  counter_in s row n k l =
      let a : (8 * n + k) / 8 ≡ n = omega arith in
      let b : (8 * n + k) % 8 ≡ k = omega arith in
      λ j. slice_index (row_of counters (a j)) (64 * word_of s row + (8 * (row % 8) + b j))

  pub marked_in : (n i : ℕ) → AreMarked NonZero flags counters → n < length counters → i < 32 → HasFirstMarked (marks n i)
  marked_in n i marked h l b b_small d u =
      let s : ℕ = i % 4 in
      let row : ℕ = 8 * (i / 4) + b / 8 in
      let k : ℕ = b % 8 in
      let w : word_of s row ≡ i = omega arith in
      let p : 8 * (row % 8) + k ≡ b = omega arith in
      let d' : bit_at (marks n (word_of s row)).downs (8 * (row % 8) + k) ≡ 0 = (λ j. bit_at (marks n (w j)).downs (p j)) ∙ d in
      let u' : bit_at (marks n (word_of s row)).ups (8 * (row % 8) + k) ≡ 0 = (λ j. bit_at (marks n (w j)).ups (p j)) ∙ u in
      let m : more_flag flags counters s row (8 * n + k) ≡ 0 = marked s row (8 * n + k) (omega arith) (omega arith) (omega arith) (down_in s row n k h (omega arith) ∙ d') (up_in s row n k h (omega arith) ∙ u') in
      sym (λ j. bit_at (marks n (w j)).more (p j)) ∙ sym (more_in s row n k h (omega arith)) ∙ m

  cell_alike : (s row n k : ℕ) → n < length counters → k < 8
      → IsAlike (2 ^ 32) (pos (number_in (marks n (word_of s row)) (row_of counters n) (word_of s row) (8 * (row % 8) + k))) (cell NonZero flags counters s row (8 * n + k))
  cell_alike s row n k h l =
      let number = number_in (marks n (word_of s row)) (row_of counters n) (word_of s row) (8 * (row % 8) + k) in
      let same : (pos (bit_at (marks n (word_of s row)).downs (8 * (row % 8) + k)) -ℤ pos (bit_at (marks n (word_of s row)).ups (8 * (row % 8) + k)))
      +ℤ pos (in_use (bit_at (marks n (word_of s row)).more (8 * (row % 8) + k)) (slice_index (row_of counters n) (64 * word_of s row + (8 * (row % 8) + k)))) ≡ cell NonZero flags counters s row (8 * n + k) =
      sym (λ j. (pos (down_in s row n k h l j) -ℤ pos (up_in s row n k h l j)) +ℤ pos (in_use (more_in s row n k h l j) (counter_in s row n k l j))) in
      subst (λ (z : ℤ). IsAlike (2 ^ 32) (pos number) z) same (number_alike _ _ (bit_at (marks n (word_of s row)).more (8 * (row % 8) + k)) _)

  -- the sum of a row, if the sums so far are those of the columns before
  pub column_sum : (s row n start m : ℕ) → n < length counters → m ≤ 8 → IsAlike (2 ^ 32) (pos start) (sum_to (cell NonZero flags counters s row) (8 * n))
      → IsAlike (2 ^ 32) (pos (run (number_in (marks n (word_of s row)) (row_of counters n) (word_of s row)) (8 * (row % 8)) start m)) (sum_to (cell NonZero flags counters s row) (8 * n + m))
  column_sum s row n start m h l start_is =
      let numbers = number_in (marks n (word_of s row)) (row_of counters n) (word_of s row) in
      let a = run_alike numbers (λ k. cell NonZero flags counters s row (8 * n + k)) (8 * (row % 8)) start m (λ k x. cell_alike s row n k h (omega arith)) in
      let b = alike_more (2 ^ 32) _ _ _ _ a start_is in
      subst (λ (z : ℤ). IsAlike (2 ^ 32) (pos (run numbers (8 * (row % 8)) start m)) z) (sym (sum-append (cell NonZero flags counters s row) (8 * n) m)) b
