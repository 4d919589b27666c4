-- The bits of a word.
use Rattle.std.proofs.Common.{◌≡◌, ◌≢◌, ◌↔◌, inl, inr, zero, sym, ap, ◌∙◌, ℕ, ◌+◌, ◌-◌, ◌*◌, ◌/◌, ◌^◌, ◌<◌, ◌≤◌, suc, arith, IsBitSet, bit_and}
use Rattle.std.specs.Int.{bit_at}
use Rattle.std.proofs.Math.Nat.{zero-mul, eq-or-lt_of_le}
use Rattle.std.proofs.lemmas.Bool.{cases_lt}
use Rattle.std.proofs.lemmas.Nat.{pow_pos, pow_below}
use Rattle.std.proofs.lemmas.Nat.Bits.{and_pow, bit_at-lt, bit_at_and, bit_at_cat_low, bit_at_cat_high, bit_at_mask_inside, bit_at_mask_below, bit_at_mask_above, ones_shr}

pub is_one : (n k : ℕ) → IsBitSet n k → bit_at n k ≡ 1
is_one n k h =
    let none : bit_at n k ≢ 0 = λ z. h (and_pow n k ∙ ap (λ b. b * 2 ^ k) z ∙ zero-mul (2 ^ k)) in
    let low : bit_at n k < 2 = bit_at-lt n k in
    omega arith

pub is_set : (n k : ℕ) → bit_at n k ≡ 1 → IsBitSet n k
is_set n k e z =
    let product : bit_at n k * 2 ^ k ≡ 0 = sym (and_pow n k) ∙ z in
    let power : 1 * 2 ^ k ≡ 0 = rw e at product in
    omega (arith, pow_pos k)

-- ---- the bits that two words have in common
pub both_set : (a b i : ℕ) → (IsBitSet (bit_and a b) i ↔ (IsBitSet a i × IsBitSet b i))
both_set a b i =
    let least = bit_at_and a b i in
    let low_a : bit_at a i < 2 = bit_at-lt a i in
    let low_b : bit_at b i < 2 = bit_at-lt b i in (
      (λ set. let one = is_one (bit_and a b) i set in (is_set a i (omega (arith, one, least)), is_set b i (omega (arith, one, least)))),
      (λ sets. let one_a = is_one a i sets.0 in let one_b = is_one b i sets.1 in is_set (bit_and a b) i (omega (arith, one_a, one_b, least))),
    )

-- ---- the bits from one to before another
pub pow_most : (i j : ℕ) → i ≤ j → 2 ^ i ≤ 2 ^ j
pow_most i j h =
    elim (eq-or-lt_of_le h) [
      | inl e ↦ rw e (omega arith)
      | inr less ↦ omega (arith, pow_below i j less)
    ]

pub ones_between : (first end i : ℕ) → (IsBitSet (2 ^ end - 2 ^ first) i ↔ ((first ≤ i) × (i < end)))
ones_between first end i = (
  (λ set.
      let one = is_one (2 ^ end - 2 ^ first) i set in (
        elim (cases_lt i first) [
          | inl less ↦ let none = bit_at_mask_below first end i less in absurd (omega (arith, one, none))
          | inr more ↦ more
        ],
        elim (cases_lt i end) [
          | inl less ↦ less
          | inr more ↦ let none = bit_at_mask_above first end i more in absurd (omega (arith, one, none))
        ],
      )),
  (λ h. is_set (2 ^ end - 2 ^ first) i (bit_at_mask_inside first end i h.0 h.1)),
)

-- the lowest bits, without the lowest of them
pub lowest_between : (first end : ℕ) → 2 ^ end - 1 - (2 ^ first - 1) ≡ 2 ^ end - 2 ^ first
lowest_between first end = omega (arith, pow_pos first)

-- all bits, moved down
pub lowest_of_all : (many : ℕ) → many ≤ 64 → 18446744073709551615 / 2 ^ (64 - many) ≡ 2 ^ many - 1
lowest_of_all many h =
    let rest : 64 - (64 - many) ≡ many = omega arith in
    ones_shr 64 (64 - many) (omega arith) ∙ ap (λ k. 2 ^ k - 1) rest

-- ---- a row of eight bits, once for each of n rows
rows : ℕ → ℕ → ℕ
rows zero bits = 0
rows (suc n) bits = rows n bits * 2 ^ 8 + bits

in_row : (n bits row column : ℕ) → bits < 256 → row < n → column < 8 → bit_at (rows n bits) (8 * row + column) ≡ bit_at bits column
unfolding rows
in_row zero bits row column few high wide = absurd (omega arith)
in_row (suc n) bits zero column few high wide = let place : 8 * 0 + column ≡ column = omega arith in ap (bit_at (rows n bits * 2 ^ 8 + bits)) place ∙ bit_at_cat_low (rows n bits) 8 bits column wide
in_row (suc n) bits (suc row) column few high wide =
    let place : 8 * suc row + column - 8 ≡ 8 * row + column = omega arith in
    bit_at_cat_high (rows n bits) 8 bits (8 * suc row + column) few (omega arith) ∙ ap (bit_at (rows n bits)) place ∙ in_row n bits row column few (omega arith) wide

eight_rows : (bits : ℕ) → bits * 72340172838076673 ≡ rows 8 bits
unfolding rows
eight_rows bits = omega arith

pub in_each_row : (bits row column : ℕ) → bits < 256 → row < 8 → column < 8 → (IsBitSet (bits * 72340172838076673) (8 * row + column) ↔ IsBitSet bits column)
in_each_row bits row column few high wide =
    let same : bit_at (bits * 72340172838076673) (8 * row + column) ≡ bit_at bits column = ap (λ n. bit_at n (8 * row + column)) (eight_rows bits) ∙ in_row 8 bits row column few high wide in (
      (λ set. is_set bits column (sym same ∙ is_one _ (8 * row + column) set)),
      (λ set. is_set _ (8 * row + column) (same ∙ is_one bits column set)),
    )
