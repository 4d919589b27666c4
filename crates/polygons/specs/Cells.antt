-- Flags and counters of the samples of a strip, which stand where edges are first crossed. By the even-odd rule a flag says whether an odd
-- number of edges is first crossed there. By the nonzero rule the first columns of flags are those of a first edge that runs downwards, as
-- many further ones those of a first edge that runs upwards, and as many again those of counters in use, which count all other edges.
use Rattle.std.specs.Prelude.{◌≡◌, ◌↔◌, ℕ, zero, suc, ◌+◌, ◌*◌, ◌/◌, ◌%◌, ◌^◌, ◌<◌, ◌≤◌, ℤ, pos, ◌+ℤ◌, ◌-ℤ◌, ◌*ℤ◌, neg_ℤ, Bool, true, false, List, length, take, drop, slice_index}
use Rattle.std.specs.Int.{bit_at}
use Rattle.grid.specs.Position.{Position}
use Rattle.grid.specs.Samples.{part_size}
use Rattle.polygons.specs.declared.edge.Edge.{Edge}
use Rattle.polygons.specs.declared.rule.Rule.{Rule}
use Rattle.polygons.specs.declared.rule.Rule.TheVariants.{EvenOdd, NonZero}
use Rattle.polygons.specs.declared.strip.Strip.{Strip}
use Rattle.polygons.specs.Blocks.{down}
use Rattle.polygons.specs.Columns.{along}
use Rattle.polygons.specs.Rows.{sum_to, direction}
use Rattle.polygons.specs.ManyRows.{row_of}
use Rattle.polygons.specs.Strip.{strip_sample}

-- The columns of a part. Each part of at most four samples of a pixel has n, and those of one part lie behind those of another.
abbrev pub part_columns : List (List ℕ) → ℕ → ℕ → List (List ℕ)
part_columns cells n part = take n (drop (part * n) cells)

-- The mask of sample s of the block in a column and a row of blocks. For each part of at most four samples of a pixel there are `many`
-- columns of words, part by part. A column has four words for each row of blocks, one for each sample.
abbrev pub mask_at : List (List ℕ) → ℕ → ℕ → ℕ → ℕ → ℕ
mask_at flags many column row s = slice_index (row_of flags (s / 4 * many + column)) (4 * row + s % 4)

-- The word of a sample's row in a column of blocks: of each row of blocks there are four.
abbrev pub word_of : ℕ → ℕ → ℕ
word_of s row = 4 * (row / 8) + s

-- The bit of a pixel in its block.
abbrev pub bit_in_block : ℕ → ℕ → ℕ
bit_in_block row k = 8 * (row % 8) + k % 8

-- The flag of sample s of the pixel in a row and a column.
abbrev pub flag_of : List (List ℕ) → ℕ → ℕ → ℕ → ℕ
flag_of flags s row k = bit_at (slice_index (row_of flags (k / 8)) (word_of s row)) (bit_in_block row k)

-- The counter of that sample.
abbrev pub counter_at : List (List ℕ) → ℕ → ℕ → ℕ → ℕ
counter_at counters s row k = slice_index (row_of counters (k / 8)) (64 * word_of s row + bit_in_block row k)

-- The first flag of that sample by the nonzero rule, of an edge that runs downwards.
abbrev pub down_flag : List (List ℕ) → List (List ℕ) → ℕ → ℕ → ℕ → ℕ
down_flag flags counters s row k = flag_of flags s row k

-- The second one, of an edge that runs upwards.
abbrev pub up_flag : List (List ℕ) → List (List ℕ) → ℕ → ℕ → ℕ → ℕ
up_flag flags counters s row k = flag_of flags s row (k + 8 * length counters)

-- The third one, of a counter in use.
abbrev pub more_flag : List (List ℕ) → List (List ℕ) → ℕ → ℕ → ℕ → ℕ
more_flag flags counters s row k = flag_of flags s row (k + 16 * length counters)

-- The number in a counter, if its flag is set, else 0.
abbrev pub in_use : ℕ → ℕ → ℕ
in_use zero counter = 0
in_use (suc flag) counter = counter

-- What stands at a sample for the rule: a flag; or the first flag less the second, and the number in the counter.
abbrev pub cell : Rule → List (List ℕ) → List (List ℕ) → ℕ → ℕ → ℕ → ℤ
cell EvenOdd flags counters s row k = pos (flag_of flags s row k)
cell NonZero flags counters s row k =
    (pos (down_flag flags counters s row k) -ℤ pos (up_flag flags counters s row k)) +ℤ pos (in_use (more_flag flags counters s row k) (counter_at counters s row k))

-- The sum of what stands in a row up to column k.
abbrev pub running_sum : Rule → List (List ℕ) → List (List ℕ) → ℕ → ℕ → ℕ → ℤ
running_sum rule flags counters s row k = sum_to (cell rule flags counters s row) (k + 1)

-- Flags are sums modulo 2, and windings modulo 2 ^ 32.
abbrev pub modulus : Rule → ℕ
modulus EvenOdd = 2
modulus NonZero = 2 ^ 32

-- The numbers differ by a multiple of m.
pub record IsAlike (m : ℕ) (x y : ℤ) : Type 0 where
  pub times : ℤ
  pub is : x ≡ y +ℤ pos m *ℤ times

-- How many flags a sample has by the rule.
abbrev pub flags_by : Rule → ℕ
flags_by EvenOdd = 1
flags_by NonZero = 3

-- How many columns of blocks there are.
abbrev pub columns_in : Rule → List (List ℕ) → List (List ℕ) → ℕ
columns_in EvenOdd flags counters = length flags
columns_in NonZero flags counters = length counters

-- The nonzero rule has three columns of flags and one of counters for each column of blocks.
abbrev pub HasCounters : Rule → List (List ℕ) → List (List ℕ) → Type 0
HasCounters EvenOdd flags counters = Unit {0}
HasCounters NonZero flags counters = length flags ≡ 3 * length counters

-- A counter is in use only if one of the other flags is set.
abbrev pub AreMarked : Rule → List (List ℕ) → List (List ℕ) → Type 0
AreMarked EvenOdd flags counters = Unit {0}
AreMarked NonZero flags counters =
    (s row k : ℕ) → s < 4 → row < 64 → k < 8 * length counters → down_flag flags counters s row k ≡ 0 → up_flag flags counters s row k ≡ 0 → more_flag flags counters s row k ≡ 0

-- The number, or its opposite.
abbrev pub signed : Bool → ℤ → ℤ
signed true z = z
signed false z = neg_ℤ z

-- An edge was counted by the nonzero rule at sample s of the pixel in a row and a column. What stands there changed by 1 or -1, modulo
-- 2 ^ 32.
pub record IsEdgeCounted (flags counters flags' counters' : List (List ℕ)) (s row k : ℕ) (down : Bool) : Type 0 where
  pub here : IsAlike (2 ^ 32) (cell NonZero flags' counters' s row k) (cell NonZero flags counters s row k +ℤ signed down (pos 1))
  pub others : (r j m : ℕ) → r < 4 → j < 64 → m < 8 * length counters → (r ≡ s → j ≡ row → m ≡ k → ⊥) → cell NonZero flags' counters' r j m ≡ cell NonZero flags counters r j m
  pub marked : AreMarked NonZero flags counters → AreMarked NonZero flags' counters'

-- What an edge that runs downwards adds at the samples of one index, by row and column. The first pixel has this sample at `start`.
abbrev pub added_by : Edge → Bool → Position → ℕ → ℕ → ℤ
added_by edge forward start row k = signed forward (direction edge (along (down start row) (pos k)))

-- To the sums of sample s in the rows from `first` to before `end` a number was added, by row and column; no other was changed.
pub record IsAdded (rule : Rule) (s first end : ℕ) (number : ℕ → ℕ → ℤ) (flags counters flags' counters' : List (List ℕ)) : Type 0 where
  pub flags_len : length flags' ≡ length flags
  pub counters_len : length counters' ≡ length counters
  pub here : (row k : ℕ) → first ≤ row → row < end → k < 8 * columns_in rule flags counters → IsAlike (modulus rule) (running_sum rule flags' counters' s row k) (running_sum rule flags counters s row k +ℤ number row k)
  pub others : (r row k : ℕ) → r < 4 → row < 64 → k < 8 * columns_in rule flags counters → (r ≡ s → first ≤ row → row < end → ⊥) → running_sum rule flags' counters' r row k ≡ running_sum rule flags counters r row k
  pub marked : AreMarked rule flags counters → AreMarked rule flags' counters'

-- To the sums at each sample of a part of a strip a number was added, which depends on where the sample lies.
pub record IsPlotted (rule : Rule) (strip : Strip) (part : ℕ) (change : Position → ℤ) (flags counters flags' counters' : List (List ℕ)) : Type 0 where
  pub flags_len : length flags' ≡ length flags
  pub counters_len : length counters' ≡ length counters
  pub totals : (s row k : ℕ) → s < part_size strip.count → row < 64 → k < 8 * columns_in rule flags counters → IsAlike (modulus rule) (running_sum rule flags' counters' s row k) (running_sum rule flags counters s row k +ℤ change (strip_sample strip (4 * part + s) row k))
  pub marked : AreMarked rule flags counters → AreMarked rule flags' counters'

-- All flags are 0.
abbrev pub AreZeros : List (List ℕ) → Type 0
AreZeros flags = (column i : ℕ) → slice_index (row_of flags column) i ≡ 0

-- All flags from a column on are 0.
abbrev pub AreZerosFrom : ℕ → List (List ℕ) → Type 0
AreZerosFrom first flags = (column i : ℕ) → first ≤ column → slice_index (row_of flags column) i ≡ 0

-- Of each part's columns those from this one on are zeros. A part has `each` of them.
abbrev pub AreMasksAlone : ℕ → ℕ → List (List ℕ) → Type 0
AreMasksAlone many each flags = (part column i : ℕ) → many ≤ column → column < each → slice_index (row_of flags (part * each + column)) i ≡ 0

-- Each bit of these masks says whether the sum of its row up to it is other than 0.
abbrev pub AreSumMasks : Rule → List (List ℕ) → List (List ℕ) → List (List ℕ) → Type 0
AreSumMasks rule flags counters masks =
    (s row k : ℕ) → s < 4 → row < 64 → k < 8 * columns_in rule flags counters
    → ((flag_of masks s row k ≡ 1) ↔ (IsAlike (modulus rule) (running_sum rule flags counters s row k) (pos 0) → ⊥))
