-- From flags to the masks of four words at once, where no counter is in use.
use Rattle.std.specs.Prelude.{◌≡◌, ℕ, ◌+◌, ◌*◌, ◌/◌, ◌%◌, ◌^◌, ◌<◌, ◌≤◌, List, length, slice_index}
use Rattle.std.specs.Int.{bit_at}
use Rattle.polygons.specs.Summing.{run, nonzero_bit}

-- What the first flags say of cell i of a word: 1, 0 or -1, modulo 2 ^ 32.
abbrev pub first_number : ℕ → ℕ → ℕ → ℕ
first_number downs ups i = bit_at downs i + 4294967295 * bit_at ups i

-- A row of eight cells has one flag at most, of either kind.
abbrev pub HasOneFlagAtMost : ℕ → ℕ → Type 0
HasOneFlagAtMost downs ups = run (λ j. bit_at downs j + bit_at ups j) 0 0 8 ≤ 1

-- The sums of 32 rows are from -8 to 7.
abbrev pub AreSmall : List ℕ → Type 0
AreSmall sums = (row : ℕ) → row < 32 → (slice_index sums row + 8) % 2 ^ 32 < 16

-- The masks of 32 rows of eight cells and the sums at their ends, by their flags and the sums before.
-- Each bit says whether the sum of its row up to it is other than 0.
pub record AreRowsSummed (downs ups sums rows ends : List ℕ) : Type 0 where
  pub whole : length rows ≡ 32
  pub ends_whole : length ends ≡ 32
  pub bits : (row j : ℕ) → row < 32 → j < 8 → bit_at (slice_index rows row) j ≡ nonzero_bit (run (first_number (slice_index downs row) (slice_index ups row)) 0 (slice_index sums row) (j + 1))
  pub next : (row : ℕ) → row < 32 → slice_index ends row ≡ run (first_number (slice_index downs row) (slice_index ups row)) 0 (slice_index sums row) 8

-- The masks of the four words of a row of blocks, by their rows, and the sums at the ends of these.
-- Each bit says whether the sum of its row up to it is other than 0.
pub record AreSummed (numbers : ℕ → ℕ → ℕ) (row : ℕ) (sums sums' rows : List ℕ) : Type 0 where
  pub bits : (w r j : ℕ) → w < 4 → r < 8 → j < 8 → bit_at (slice_index rows (8 * w + r)) j ≡ nonzero_bit (run (numbers w) (8 * r) (slice_index sums (32 * row + (8 * w + r))) (j + 1))
  pub next : (w r : ℕ) → w < 4 → r < 8 → slice_index sums' (32 * row + (8 * w + r)) ≡ run (numbers w) (8 * r) (slice_index sums (32 * row + (8 * w + r))) 8
  pub other_sums : (q : ℕ) → (q / 32 ≡ row → ⊥) → slice_index sums' q ≡ slice_index sums q
