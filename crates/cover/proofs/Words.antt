-- Four groups of sixteen bits in a word, and the bits of words.
use Rattle.std.proofs.Common.{◌≡◌, ◌↔◌, ◌⊎◌, refl, sym, ap, ◌∙◌, inl, inr, zero, suc, max, arith, rules, ℕ, ◌+◌, ◌-◌, ◌*◌, ◌/◌, ◌%◌, ◌^◌, ◌<◌, ◌≤◌, cond, bit_or, bit_and, mul-le-mul_right, ℤ, pos, negsuc, ◌≤ℤ◌}
use Rattle.std.proofs.lemmas.Int.{ints}
use Rattle.std.proofs.lemmas.Bool.{cases_lt}
use Rattle.std.proofs.lemmas.Nat.{pow_pos, and_le_r}
use Rattle.std.proofs.lemmas.Nat.Bits.{and_pow, bit_at_and, bit_at_cat_low, bit_at_cat_high, bit_at_ones, bit_at_or, bit_at_mask_inside, bit_at_mask_below, bit_at_mask_above, bit_at-zero, bit_at-lt}
use Rattle.std.specs.Int.{bit_at, IsBitSet}
use Rattle.std.specs.Int.Bits.{or_shifted_r}
use Rattle.cover.specs.Block.{IsInPatch, is_negative}

pub on : (n i : ℕ) → bit_at n i ≡ 1 → IsBitSet n i
on n i e z = let p : 1 * 2 ^ i ≡ 0 = sym (and_pow n i ∙ ap (λ b. b * 2 ^ i) e) ∙ z in omega (arith, p, pow_pos i)

pub off : (n i : ℕ) → bit_at n i ≡ 0 → IsBitSet n i → ⊥
off n i e set = set (and_pow n i ∙ ap (λ b. b * 2 ^ i) e ∙ (omega arith))

set_is_one : (n i : ℕ) → IsBitSet n i → bit_at n i ≡ 1
set_is_one n i set =
    elim (cases_lt (bit_at n i) 1) [
      | inl low ↦ absurd (off n i (omega (arith, low)) set)
      | inr high ↦ omega (arith, high, bit_at-lt n i)
    ]

-- ---- whole words
pub full : (n i : ℕ) → n ≡ 2 ^ 64 - 1 → i < 64 → IsBitSet n i
full n i e lt = on n i (ap (λ m. bit_at m i) e ∙ bit_at_ones 64 i lt)

zero_and : (n : ℕ) → bit_and 0 n ≡ 0
zero_and n = search rules

pub empty_word : (n i : ℕ) → n ≡ 0 → IsBitSet n i → ⊥
empty_word n i e set = set (ap (λ m. bit_and m (2 ^ i)) e ∙ zero_and (2 ^ i))

pub no_bits : bit_and 0 0 ≡ 0
no_bits = zero_and 0

-- ---- the bits of two words
pub set_in_both : (m n i : ℕ) → IsBitSet (bit_and m n) i ↔ (IsBitSet m i × IsBitSet n i)
set_in_both m n i =
    let both = bit_at_and m n i in (
      λ s. let one = set_is_one (bit_and m n) i s in (on m i (omega (arith, both, one, bit_at-lt m i, bit_at-lt n i)), on n i (omega (arith, both, one, bit_at-lt m i, bit_at-lt n i))),
      λ h. let one = set_is_one m i h.0 in let other = set_is_one n i h.1 in on (bit_and m n) i (omega (arith, both, one, other)),
    )

-- ---- a bit that is not set where a number is negative
at_least_0 : (n : ℕ) → pos 0 ≤ℤ pos n
at_least_0 n = omega (arith, ints)

pub passes_exactly : (n i : ℕ) (x : ℤ) → bit_at n i ≡ 1 - cond (is_negative x) 1 0 → IsBitSet n i ↔ (pos 0 ≤ℤ x)
passes_exactly n i (pos x) e = (λ s. at_least_0 x, λ h. on n i e)
passes_exactly n i (negsuc x) e = (λ s. absurd (off n i e s), λ h. absurd h.le)

-- ---- groups of sixteen bits
abbrev pub joined : ℕ → ℕ → ℕ → ℕ
joined word group k = bit_or word (group * 2 ^ k % 2 ^ 64)

-- the groups of a word as far as k bits, where `want i` is the bit that i is to have
pub record AreBits (want : ℕ → ℕ) (k word : ℕ) : Type 0 where
  pub low : word < 2 ^ k
  pub bits : (i : ℕ) → i < k → bit_at word i ≡ want i

one_group_more : (want : ℕ → ℕ) (word group k l : ℕ) → k + 16 ≡ l → l ≤ 64 → group * 2 ^ k < 2 ^ 64 → 2 ^ l ≡ 65536 * 2 ^ k → AreBits want k word → AreBits (λ j. want (k + j)) 16 group → AreBits want l (joined word group k)
one_group_more want word group k l e room fits power low high =
    let is : joined word group k ≡ group * 2 ^ k + word = ap (bit_or word) (mod_same (group * 2 ^ k) fits) ∙ or_shifted_r group k word low.low in
    let less : group < 65536 = high.low in
    let a : group * 2 ^ k ≤ 65535 * 2 ^ k = mul-le-mul_right (2 ^ k) (omega arith) in
    let under = low.low in
    record {
      low = omega (arith, a, power, is);
      bits = λ i lt. ap (λ n. bit_at n i) is ∙ elim (cases_lt i k) [
        | inl below ↦ bit_at_cat_low group k word i below ∙ low.bits i below
        | inr above ↦ bit_at_cat_high group k word i low.low above ∙ high.bits (i - k) (omega arith) ∙ ap want (omega arith)
      ];
    }
  where
    mod_same : (n : ℕ) → n < 2 ^ 64 → n % 2 ^ 64 ≡ n
    mod_same n lt = omega arith

pub four_groups : (want : ℕ → ℕ) (a b c d : ℕ) → AreBits want 16 a → AreBits (λ j. want (16 + j)) 16 b → AreBits (λ j. want (32 + j)) 16 c → AreBits (λ j. want (48 + j)) 16 d
    → AreBits want 64 (joined (joined (joined a b 16) c 32) d 48)
four_groups want a b c d p q r s =
    let fits_b : b < 65536 = q.low in
    let fits_c : c < 65536 = r.low in
    let fits_d : d < 65536 = s.low in
    one_group_more want _ d 48 64 refl (omega arith) (omega arith) refl
    (one_group_more want _ c 32 48 refl (omega arith) (omega arith) refl (one_group_more want a b 16 32 refl (omega arith) (omega arith) refl p q) r) s

-- ---- words that are moved up
low_bits : (n i : ℕ) → i < 64 → bit_at (n % 2 ^ 64) i ≡ bit_at n i
low_bits n i lt = let whole : n / 2 ^ 64 * 2 ^ 64 + n % 2 ^ 64 ≡ n = omega arith in sym (bit_at_cat_low (n / 2 ^ 64) 64 (n % 2 ^ 64) i lt) ∙ ap (λ m. bit_at m i) whole

moved_bit : (word by i : ℕ) → i < 64 → by ≤ i → bit_at (word * 2 ^ by % 2 ^ 64) i ≡ bit_at word (i - by)
moved_bit word by i lt h =
    let none : word * 2 ^ by + 0 ≡ word * 2 ^ by = omega arith in
    low_bits (word * 2 ^ by) i lt ∙ ap (λ n. bit_at n i) (sym none) ∙ bit_at_cat_high word by 0 i (pow_pos by) h

no_moved_bit : (word by i : ℕ) → i < 64 → i < by → bit_at (word * 2 ^ by % 2 ^ 64) i ≡ 0
no_moved_bit word by i lt h =
    let none : word * 2 ^ by + 0 ≡ word * 2 ^ by = omega arith in
    low_bits (word * 2 ^ by) i lt ∙ ap (λ n. bit_at n i) (sym none) ∙ bit_at_cat_low word by 0 i h ∙ bit_at-zero i

-- bits that are the same
same_bit : (m n i j : ℕ) → bit_at m i ≡ bit_at n j → IsBitSet m i ↔ IsBitSet n j
same_bit m n i j e = (λ s. on n j (sym e ∙ set_is_one m i s), λ s. on m i (e ∙ set_is_one n j s))

-- ---- four rows of four pixels, as the first of a block
abbrev nibble : ℕ → ℕ → ℕ
nibble word r = bit_and word (2 ^ (4 * r + 4) - 2 ^ (4 * r)) * 2 ^ (4 * r) % 2 ^ 64

nibble_of_row : (word row column : ℕ) → row < 4 → column < 4 → bit_at (nibble word row) (8 * row + column) ≡ bit_at word (4 * row + column)
nibble_of_row word row column lt within =
    let mask = 2 ^ (4 * row + 4) - 2 ^ (4 * row) in
    let place : 8 * row + column - 4 * row ≡ 4 * row + column = omega arith in
    let inside : bit_at mask (4 * row + column) ≡ 1 = bit_at_mask_inside (4 * row) (4 * row + 4) (4 * row + column) (omega arith) (omega (arith, within)) in
    moved_bit (bit_and word mask) (4 * row) (8 * row + column) (omega (arith, lt, within)) (omega arith) ∙ ap (bit_at (bit_and word mask)) place
    ∙ bit_at_and word mask (4 * row + column) ∙ (omega (arith, inside, bit_at-lt word (4 * row + column)))

nibble_of_other : (word r row column : ℕ) → row < 8 → column < 8 → (row < r) ⊎ ((r < row) ⊎ (4 ≤ column)) → bit_at (nibble word r) (8 * row + column) ≡ 0
nibble_of_other word r row column lt within other =
    let mask = 2 ^ (4 * r + 4) - 2 ^ (4 * r) in
    let i = 8 * row + column in
    let small : i < 64 = omega (arith, lt, within) in
    elim (cases_lt i (4 * r)) [
      | inl low ↦ no_moved_bit (bit_and word mask) (4 * r) i small low
      | inr from ↦
          let outside : bit_at mask (i - 4 * r) ≡ 0 = elim (cases_lt row r) [
            | inl above ↦ bit_at_mask_below (4 * r) (4 * r + 4) (i - 4 * r) (omega (arith, above, within))
            | inr below ↦ bit_at_mask_above (4 * r) (4 * r + 4) (i - 4 * r) (omega (arith, below, other))
          ] in
          moved_bit (bit_and word mask) (4 * r) i small from ∙ bit_at_and word mask (i - 4 * r) ∙ (omega (arith, outside))
    ]

abbrev pub spread : ℕ → ℕ
spread word = bit_or (bit_or (bit_or (bit_and word 15) (nibble word 1)) (nibble word 2)) (nibble word 3)

bits_of_spread : (word i : ℕ) → bit_at (spread word) i ≡ max (max (max (bit_at (nibble word 0) i) (bit_at (nibble word 1) i)) (bit_at (nibble word 2) i)) (bit_at (nibble word 3) i)
bits_of_spread word i =
    let first : bit_and word 15 ≡ nibble word 0 = omega (arith, and_le_r word 15) in
    bit_at_or _ (nibble word 3) i ∙ ap (λ n. max n (bit_at (nibble word 3) i)) (bit_at_or _ (nibble word 2) i ∙ ap (λ n. max n (bit_at (nibble word 2) i)) (bit_at_or _ (nibble word 1) i ∙ ap (λ n. max (bit_at n i) (bit_at (nibble word 1) i)) first))

spread_bit : (word row column : ℕ) → row < 4 → column < 4 → bit_at (spread word) (8 * row + column) ≡ bit_at word (4 * row + column)
spread_bit word row column lt within =
    let here = nibble_of_row word row column lt within in
    let other : (r : ℕ) → (row < r) ⊎ (r < row) → bit_at (nibble word r) (8 * row + column) ≡ 0 =
    λ r h. nibble_of_other word r row column (omega (arith, lt)) (omega (arith, within)) (elim h [ inl above ↦ inl above | inr below ↦ inr (inl below) ]) in
    bits_of_spread word (8 * row + column) ∙ at row lt here other
  where
    at : (row : ℕ) → row < 4 → bit_at (nibble word row) (8 * row + column) ≡ bit_at word (4 * row + column) → ((r : ℕ) → (row < r) ⊎ (r < row) → bit_at (nibble word r) (8 * row + column) ≡ 0)
        → max (max (max (bit_at (nibble word 0) (8 * row + column)) (bit_at (nibble word 1) (8 * row + column))) (bit_at (nibble word 2) (8 * row + column))) (bit_at (nibble word 3) (8 * row + column)) ≡ bit_at word (4 * row + column)
    at zero lt here other = omega (arith, here, other 1 (inl (omega arith)), other 2 (inl (omega arith)), other 3 (inl (omega arith)))
    at (suc zero) lt here other = omega (arith, here, other 0 (inr (omega arith)), other 2 (inl (omega arith)), other 3 (inl (omega arith)))
    at (suc (suc zero)) lt here other = omega (arith, here, other 0 (inr (omega arith)), other 1 (inr (omega arith)), other 3 (inl (omega arith)))
    at (suc (suc (suc zero))) lt here other = omega (arith, here, other 0 (inr (omega arith)), other 1 (inr (omega arith)), other 2 (inr (omega arith)))
    at (suc (suc (suc (suc row)))) lt here other = absurd (omega (arith, lt))

no_spread_bit : (word row column : ℕ) → row < 8 → column < 8 → (4 ≤ row) ⊎ (4 ≤ column) → bit_at (spread word) (8 * row + column) ≡ 0
no_spread_bit word row column lt within far =
    let other : (r : ℕ) → r < 4 → bit_at (nibble word r) (8 * row + column) ≡ 0 =
    λ r h. nibble_of_other word r row column lt within (elim far [ inl below ↦ inr (inl (omega (arith, below, h))) | inr right ↦ inr (inr right) ]) in
    bits_of_spread word (8 * row + column) ∙ (omega (arith, other 0 (omega arith), other 1 (omega arith), other 2 (omega arith), other 3 (omega arith)))

pub spread_is : (word row column : ℕ) → row < 8 → column < 8 → IsBitSet (spread word) (8 * row + column) ↔ (IsInPatch 0 0 row column × IsBitSet word (4 * row + column))
spread_is word row column lt within =
    elim (cases_lt row 4) [
      | inl high ↦ elim (cases_lt column 4) [
        | inl left ↦ (let same = same_bit (spread word) word (8 * row + column) (4 * row + column) (spread_bit word row column high left) in
            (λ s. (record { from_column = omega arith; to_column = omega (arith, left); from_row = omega arith; to_row = omega (arith, high) }, same.0 s), λ h. same.1 h.1))
        | inr right ↦ (λ s. absurd (off _ _ (no_spread_bit word row column lt within (inr right)) s), λ h. absurd (let p = h.0 in omega (arith, p.to_column, right)))
      ]
      | inr low ↦ (λ s. absurd (off _ _ (no_spread_bit word row column lt within (inl low)) s), λ h. absurd (let p = h.0 in omega (arith, p.to_row, low)))
    ]

-- and from another row and column on
pub placed_is : (spread word left top row column : ℕ) → left ≤ 4 → top ≤ 4 → row < 8 → column < 8
    → ((row column : ℕ) → row < 8 → column < 8 → (IsBitSet spread (8 * row + column) ↔ (IsInPatch 0 0 row column × IsBitSet word (4 * row + column))))
    → IsBitSet (spread * 2 ^ (8 * top + left) % 2 ^ 64) (8 * row + column) ↔ (IsInPatch left top row column × IsBitSet word (4 * (row - top) + (column - left)))
placed_is spread word left top row column few_left few_top lt within is =
    let by = 8 * top + left in
    let i = 8 * row + column in
    let small : i < 64 = omega (arith, lt, within) in
    elim (cases_lt i by) [
      | inl before ↦ (λ s. absurd (off _ i (no_moved_bit spread by i small before) s), λ h. absurd (let p = h.0 in omega (arith, before, p.from_column, p.from_row)))
      | inr from ↦ elim (cases_lt column left) [
        | inl over ↦
            let behind : i - by ≡ 8 * (row - top - 1) + (8 + column - left) = omega (arith, from, over, within, few_left) in
            let place : bit_at (spread * 2 ^ by % 2 ^ 64) i ≡ bit_at spread (8 * (row - top - 1) + (8 + column - left)) = moved_bit spread by i small from ∙ ap (bit_at spread) behind in
            let same = same_bit (spread * 2 ^ by % 2 ^ 64) spread i _ place in
            let none = is (row - top - 1) (8 + column - left) (omega (arith, lt)) (omega (arith, over)) in
            (λ s. absurd (let p = (none.0 (same.0 s)).0 in omega (arith, p.to_column, few_left, over)), λ h. absurd (let p = h.0 in omega (arith, p.from_column, over)))
        | inr right ↦
            let down : top ≤ row = omega (arith, from, within) in
            let behind : i - by ≡ 8 * (row - top) + (column - left) = omega (arith, from, right, down) in
            let place : bit_at (spread * 2 ^ by % 2 ^ 64) i ≡ bit_at spread (8 * (row - top) + (column - left)) = moved_bit spread by i small from ∙ ap (bit_at spread) behind in
            let same = same_bit (spread * 2 ^ by % 2 ^ 64) spread i _ place in
            let first = is (row - top) (column - left) (omega (arith, lt)) (omega (arith, within)) in (
              λ s. (let parts = first.0 (same.0 s) in let p = parts.0 in (record { from_column = right; to_column = omega (arith, p.to_column, right); from_row = down; to_row = omega (arith, p.to_row, down) }, parts.1)),
              λ h. (let p = h.0 in same.1 (first.1 (record { from_column = omega arith; to_column = omega (arith, p.to_column, right); from_row = omega arith; to_row = omega (arith, p.to_row, down) }, h.1))),
            )
      ]
    ]

pub moved_nothing : (k : ℕ) → 0 * k % 2 ^ 64 ≡ 0
moved_nothing k = omega arith
