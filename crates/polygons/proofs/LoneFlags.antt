-- Rows with one flag at most. What is said of two bytes is tried for all of them.
use Rattle.std.proofs.Common.{◌≡◌, ◌∙◌, inl, inr, refl, sym, subst, arith, ℕ, zero, suc, ◌+◌, ◌*◌, ◌%◌, ◌^◌, ◌<◌, Bool, true, false, leb, eqb, cond, bit_and, bit_or}
use Rattle.std.specs.Int.{bit_at}
use Rattle.std.specs.Int.RustNames.{bit_xor}
use Rattle.std.proofs.lemmas.Bool.{cases_lt, eqb-true, eq-eqb, leb-true, le-leb}
use Rattle.polygons.specs.Summing.{run, nonzero_bit}
use Rattle.polygons.specs.FourSums.{first_number, HasOneFlagAtMost}
use Rattle.polygons.proofs.ByteSums.{sum8, difference8}

-- ---- a test of all numbers below n
holds_below : ℕ → (ℕ → Bool) → Bool
holds_below zero p = true
holds_below (suc n) p = cond (p n) (holds_below n p) false

first_of : (a b : Bool) → cond a b false ≡ true → a ≡ true
first_of true b h = refl
first_of false b h = h

second_of : (a b : Bool) → cond a b false ≡ true → b ≡ true
second_of true b h = h
second_of false true h = refl
second_of false false h = h

at_each : (n : ℕ) (p : ℕ → Bool) → holds_below n p ≡ true → (i : ℕ) → i < n → p i ≡ true
unfolding holds_below
at_each zero p h i l = absurd (omega (arith, l))
at_each (suc n) p h i l = elim (cases_lt i n) [
  | inl m ↦ at_each n p (second_of (p n) _ h) i m
  | inr m ↦ let last : i ≡ n = omega (arith, l, m) in subst (λ k. p k ≡ true) (sym last) (first_of (p n) _ h)
]

-- ---- rows with one flag at most
one_at_most : ℕ → ℕ → Bool
one_at_most d u = leb (run (λ j. bit_at d j + bit_at u j) 0 0 8) 1

-- the flags of a row but the first one, and those of both kinds
abbrev pub further : ℕ → ℕ → ℕ
further d u = bit_or (bit_and (bit_or d u) (difference8 (bit_or d u) 1)) (bit_and d u)

is_same : Bool → Bool → Bool
is_same true b = b
is_same false b = cond b false true

same_of : (a b : Bool) → is_same a b ≡ true → a ≡ b
unfolding is_same
same_of true true h = refl
same_of true false h = sym h
same_of false true h = h
same_of false false h = refl

further_tried : holds_below 256 (λ d. holds_below 256 (λ u. is_same (eqb (further d u) 0) (one_at_most d u))) ≡ true
unfolding holds_below is_same one_at_most
further_tried = refl

module _ (d u : ℕ) (hd : d < 256) (hu : u < 256) where
  none_further : eqb (further d u) 0 ≡ one_at_most d u
  none_further = same_of _ _ (at_each 256 (λ u. is_same (eqb (further d u) 0) (one_at_most d u)) (at_each 256 (λ d. holds_below 256 (λ u. is_same (eqb (further d u) 0) (one_at_most d u))) further_tried d hd) u hu)

  pub is_lone : further d u ≡ 0 → HasOneFlagAtMost d u
  unfolding one_at_most
  is_lone h = leb-true _ 1 (sym none_further ∙ eq-eqb _ 0 h)

  pub lone_is : HasOneFlagAtMost d u → further d u ≡ 0
  unfolding one_at_most
  lone_is h = eqb-true _ 0 (none_further ∙ le-leb _ 1 h)

-- ---- their masks and sums, by the sums before modulo 256
abbrev pub end_of : ℕ → ℕ → ℕ → ℕ
end_of d u s = sum8 (difference8 s (255 * nonzero_bit d)) (255 * nonzero_bit u)

abbrev pub row_of : ℕ → ℕ → ℕ → ℕ
row_of d u s = bit_xor (255 * nonzero_bit s) (bit_and (bit_xor (255 * nonzero_bit s) (255 * nonzero_bit (end_of d u s))) (difference8 0 (bit_or d u)))

is_right : ℕ → ℕ → ℕ → Bool
is_right d u k =
    let s = (k + 4294967288) % 2 ^ 32 in
    cond (holds_below 8 (λ j. eqb (bit_at (row_of d u (s % 256)) j) (nonzero_bit (run (first_number d u) 0 s (j + 1))))) (eqb ((sum8 (end_of d u (s % 256)) 16 + 4294967280) % 2 ^ 32) (run (first_number d u) 0 s 8)) false

rows_tried : holds_below 256 (λ d. holds_below 256 (λ u. cond (one_at_most d u) (holds_below 16 (is_right d u)) true)) ≡ true
unfolding holds_below is_right one_at_most
rows_tried = refl

when : (a b : Bool) → cond a b true ≡ true → a ≡ true → b ≡ true
when true b h t = h
when false true h t = refl
when false false h t = t

module _ (d u s : ℕ) (hd : d < 256) (hu : u < 256) (small : s < 2 ^ 32) (near : (s + 8) % 2 ^ 32 < 16) (lone : HasOneFlagAtMost d u) where
  abbrev k : ℕ
  k = (s + 8) % 2 ^ 32

  start : (k + 4294967288) % 2 ^ 32 ≡ s
  start = omega (arith, small, near)

  one : one_at_most d u ≡ true
  unfolding one_at_most
  one = le-leb _ 1 lone

  both : is_right d u k ≡ true
  both = at_each 16 (is_right d u) (when (one_at_most d u) _ (at_each 256 (λ u. cond (one_at_most d u) (holds_below 16 (is_right d u)) true) (at_each 256 (λ d. holds_below 256 (λ u. cond (one_at_most d u) (holds_below 16 (is_right d u)) true)) rows_tried d hd) u hu) one) k near

  pub row_bit : (j : ℕ) → j < 8 → bit_at (row_of d u (s % 256)) j ≡ nonzero_bit (run (first_number d u) 0 s (j + 1))
  unfolding is_right
  row_bit j h =
      let all = first_of _ _ both in
      subst (λ n. bit_at (row_of d u (n % 256)) j ≡ nonzero_bit (run (first_number d u) 0 n (j + 1))) start (eqb-true _ _ (at_each 8 _ all j h))

  pub row_end : (sum8 (end_of d u (s % 256)) 16 + 4294967280) % 2 ^ 32 ≡ run (first_number d u) 0 s 8
  unfolding is_right
  row_end = subst (λ n. (sum8 (end_of d u (n % 256)) 16 + 4294967280) % 2 ^ 32 ≡ run (first_number d u) 0 n 8) start (eqb-true _ _ (second_of _ _ both))
