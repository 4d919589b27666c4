-- Vectors of signed lanes: a clause has the numbers, and a body has their bits.
use Rattle.std.proofs.Common.{◌≡◌, inl, inr, ℕ, zero, suc, ◌^◌, ◌<◌, ◌≤◌, true, false, List, [], ◌∷◌, map, length, replicate, ℤ, pos, negsuc, ◌+ℤ◌, refl, ap, ap₂, ◌∙◌, sym, arith, w32, of_z, leb, ltb, FitsSigned}
use Rattle.std.proofs.lemmas.Bool.{cases_lt}
use Rattle.std.proofs.lemmas.Int.{to_z-of_z, to_z_pos, ints}
use borrow.Rule.Simd.Lanes.{act2, Asks2}
use borrow.Table.Row.{s_int}
use mir.Syntax.{add, signed, mask, lt}
use lib.Lanes.{zip2, Each1, Each2, top}
use Rattle.cover.specs.Block.{is_negative}

abbrev pub plus : ℕ → ℕ → ℕ
plus = act2 (add signed) (s_int w32) (s_int w32) (s_int w32)

pub moves_fit : (by : ℤ) (xs : List ℤ) (n : ℕ) → FitsSigned w32 by → Each1 (FitsSigned w32) xs → Each1 (λ v. FitsSigned w32 (v +ℤ by)) xs
    → Each2 (Asks2 (add signed) (s_int w32) (s_int w32)) (map (of_z w32) xs) (replicate n (of_z w32 by))
moves_fit by [] n small fits sums = tt
moves_fit by (x ∷ xs) zero small fits sums = tt
moves_fit by (x ∷ xs) (suc n) small fits sums =
    (let f : FitsSigned w32 x = fits.0 in let s : FitsSigned w32 (x +ℤ by) = sums.0 in omega (arith, ints), moves_fit by xs n small fits.1 sums.1)

-- ---- which lanes are negative, by the highest bit
abbrev pub below : ℕ → ℕ → ℕ
below = act2 (mask (lt signed)) (s_int w32) (s_int w32) (s_int w32)

high : (n : ℕ) → 2 ^ 31 ≤ n → leb (2 ^ 31) n ≡ true
high n le = grind arith

low : (n : ℕ) → n < 2 ^ 31 → leb (2 ^ 31) n ≡ false
low n less = grind arith

-- a comparison with 0 yields the highest bit
under_zero : (n : ℕ) → top 31 (below n 0) ≡ leb (2 ^ 31) n
under_zero n =
    elim (cases_lt n (2 ^ 31)) [
      | inl less ↦ rw (to_z_pos w32 n less) (let e : ltb n 0 ≡ false = grind arith in rw e (sym (low n less)))
      | inr more ↦ (let e : ltb n (2 ^ 31) ≡ false = grind arith in rw e (sym (high n more)))
    ]

-- a number is negative if its highest bit is set
negative_bits : (x : ℤ) → FitsSigned w32 x → leb (2 ^ 31) (of_z w32 x) ≡ is_negative x
negative_bits (pos n) fits = low n (omega (arith, ints, fits))
negative_bits (negsuc n) fits = high _ (omega (arith, ints, fits))

sum_is : (x y : ℤ) → FitsSigned w32 x → FitsSigned w32 y → plus (of_z w32 x) (of_z w32 y) ≡ of_z w32 (x +ℤ y)
sum_is x y f g = λ i. of_z w32 (to_z-of_z w32 x f i +ℤ to_z-of_z w32 y g i)

negative_sum : (x by : ℤ) → FitsSigned w32 x → FitsSigned w32 by → FitsSigned w32 (x +ℤ by) → top 31 (below (plus (of_z w32 x) (of_z w32 by)) 0) ≡ is_negative (x +ℤ by)
negative_sum x by f g h = ap (λ n. top 31 (below n 0)) (sum_is x by f g) ∙ under_zero (of_z w32 (x +ℤ by)) ∙ negative_bits (x +ℤ by) h

-- what the comparison of the sums with 0 leaves, lane by lane
pub tests : (by : ℤ) (xs : List ℤ) → FitsSigned w32 by → Each1 (FitsSigned w32) xs → Each1 (λ v. FitsSigned w32 (v +ℤ by)) xs
    → map (top 31) (zip2 below (zip2 plus (map (of_z w32) xs) (replicate (length xs) (of_z w32 by))) (replicate (length xs) 0)) ≡ map (λ v. is_negative (v +ℤ by)) xs
tests by [] small fits sums = refl
tests by (x ∷ xs) small fits sums = ap₂ (λ a l. a ∷ l) (negative_sum x by fits.0 small sums.0) (tests by xs small fits.1 sums.1)
