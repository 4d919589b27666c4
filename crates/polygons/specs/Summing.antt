-- From flags and counters to masks.
use Rattle.std.specs.Prelude.{◌≡◌, ℕ, zero, suc, ◌+◌, ◌*◌, ◌/◌, ◌%◌, ◌^◌, ◌<◌, ◌≤◌, cond, ◌==◌, List, length, slice_index}
use Rattle.std.specs.Int.{bit_at}
use Rattle.polygons.specs.declared.marks.Marks.{Marks}
use Rattle.polygons.specs.Cells.{in_use}

-- The flags of word i of a column.
abbrev pub marks_of_word : List ℕ → List ℕ → List ℕ → ℕ → Marks
marks_of_word downs ups more i = record { downs = slice_index downs i; ups = slice_index ups i; more = slice_index more i }

-- A counter is in use only if one of the other flags is set.
abbrev pub HasFirstMarked : Marks → Type 0
HasFirstMarked marks = (i : ℕ) → i < 64 → bit_at marks.downs i ≡ 0 → bit_at marks.ups i ≡ 0 → bit_at marks.more i ≡ 0

-- The number of cell i of a word, or more by a multiple of 2 ^ 32.
abbrev pub number_in : Marks → List ℕ → ℕ → ℕ → ℕ
number_in marks counters word i = bit_at marks.downs i + 4294967295 * bit_at marks.ups i + in_use (bit_at marks.more i) (slice_index counters (64 * word + i))

-- The sum of a number and of n further ones from `from` on, modulo 2 ^ 32.
abbrev pub run : (ℕ → ℕ) → ℕ → ℕ → ℕ → ℕ
run numbers from start zero = start
run numbers from start (suc n) = (run numbers from start n + numbers (from + n)) % 2 ^ 32

-- 1 if the number is other than 0.
abbrev pub nonzero_bit : ℕ → ℕ
nonzero_bit n = cond (n == 0) 0 1

-- 1 if one of the numbers is 0 and the other is not.
abbrev pub change_bit : ℕ → ℕ → ℕ
change_bit m n = (nonzero_bit m + nonzero_bit n) % 2

-- Whether cell i of a word changes the sum of its row from 0 to another number, or from another number to 0: 1 or 0.
abbrev pub change_at : (ℕ → ℕ) → ℕ → List ℕ → ℕ → ℕ
change_at numbers word sums i =
    let sum = run numbers (8 * (i / 8)) (slice_index sums (8 * word + i / 8)) in
    change_bit (sum (i % 8)) (sum (i % 8 + 1))

-- The mask of word i of a column if it has no flags. Each bit says whether the sum at the beginning of its row is other than 0.
abbrev pub IsLevelMask : ℕ → ℕ → List ℕ → Type 0
IsLevelMask level i sums = (r j : ℕ) → r < 8 → j < 8 → bit_at level (8 * r + j) ≡ nonzero_bit (slice_index sums (8 * i + r))

-- The mask and the sums of a word's rows. Each bit says whether the sum of its row up to it is other than 0, and the sums are those at the ends of rows.
pub record IsSummed (numbers : ℕ → ℕ) (word : ℕ) (sums sums' : List ℕ) (mask : ℕ) : Type 0 where
  pub bits : (r j : ℕ) → r < 8 → j < 8 → bit_at mask (8 * r + j) ≡ nonzero_bit (run numbers (8 * r) (slice_index sums (8 * word + r)) (j + 1))
  pub next : (r : ℕ) → r < 8 → slice_index sums' (8 * word + r) ≡ run numbers (8 * r) (slice_index sums (8 * word + r)) 8
  pub other_sums : (q : ℕ) → (q / 8 ≡ word → ⊥) → slice_index sums' q ≡ slice_index sums q

-- The lanes are the numbers of a word's cells modulo 256. Each number is from -most to most, modulo 2 ^ 32.
pub record AreInBytes (most : ℕ) (numbers : ℕ → ℕ) (lanes : List ℕ) : Type 0 where
  pub whole : length lanes ≡ 64
  pub small : (i : ℕ) → i < 64 → (numbers i + most) % 2 ^ 32 ≤ 2 * most
  pub each : (i : ℕ) → i < 64 → slice_index lanes i ≡ numbers i % 256
