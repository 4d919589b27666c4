-- The integer that serde_json reads from a number's text, from what `fast_float` returns for it.
use Rattle.std.proofs.Common.{◌≡◌, ℕ, zero, suc, ◌<◌, ◌≤◌, ◌^◌, ℤ, pos, List, [], ◌++◌, append-nil, get_or, drop, length, true, false, ◌==◌, Some, option_and_then, FitsSigned, SFits, w64, refl, sym, ap, ◌∙◌, arith, lt-ltb, le-leb}
use Rattle.std.proofs.lemmas.Int.{ints}
use Rattle.std.specs.Str.Parse.{digits_value, AllDigits}
use Rattle.fast_float.specs.Text.{Parts, scan, digits_of, with_sign, IsInteger, IsWellFormed}
use Rattle.fast_float.proofs.Writing.{scan-text_of}
use Rattle.serde_json.specs.Data.{unsigned, negative}
use Rattle.serde_json.specs.Find.{as_integer}
use Rattle.serde_json.specs.Read.{is_integer, number_from, number_of}

integer : (p : Parts) → IsInteger p → is_integer p ≡ true
integer p h = rw (lt-ltb _ _ h.0, h.1, h.2)

from_digits : (p : Parts) (n : ℕ) → digits_of p ≡ n → IsInteger p → FitsSigned w64 (pos n) → number_from false p ≡ Some (unsigned n)
from_digits p n e h fits = let below : n < 2 ^ 64 = grind arith in rw (integer p h, e, lt-ltb _ _ below) refl

from_minus : (p : Parts) (n : ℕ) → digits_of p ≡ n → IsInteger p → 0 < n → n ≤ 2 ^ 63 → number_from true p ≡ Some (negative (with_sign true n))
from_minus p n e h some below = rw (integer p h, e, lt-ltb _ _ some, le-leb _ _ below) refl

-- ---- the same from digits alone

abbrev parts_of : List ℕ → Parts
parts_of ds = record { whole = ds; point = false; fraction = []; exponent_negative = false; exponent = []; len = length (ds ++ []) }

scanned : (ds : List ℕ) → AllDigits 10 ds → scan ds ≡ parts_of ds
scanned ds h =
    let formed : IsWellFormed (parts_of ds) = record { whole_digits = h; fraction_digits = tt; exponent_digits = tt; no_point = λ _. refl; no_exponent = λ _. refl; len_is = refl } in
    ap scan (sym (append-nil ds)) ∙ scan-text_of (parts_of ds) formed

valued : (ds : List ℕ) → digits_of (parts_of ds) ≡ digits_value 10 ds
valued ds = ap (digits_value 10) (append-nil ds)

is_whole : (ds : List ℕ) → 0 < length ds → IsInteger (parts_of ds)
is_whole ds some = (some, refl, refl)

pub digits_are : (s : List ℕ) (z : ℤ) → (get_or s 0 0 == 45) ≡ false → z ≡ pos (digits_value 10 s) → AllDigits 10 s → 0 < length s → FitsSigned w64 z
    → option_and_then as_integer (number_of s) ≡ Some z
unfolding number_of
digits_are s z plain e h some fits =
    let whole : FitsSigned w64 (pos (digits_value 10 s)) = rw e at fits in
    rw (plain, scanned s h) (ap (option_and_then as_integer) (from_digits (parts_of s) _ (valued s) (is_whole s some) whole) ∙ ap Some (sym e))

pub minus_are : (s : List ℕ) (z : ℤ) → (get_or s 0 0 == 45) ≡ true → z ≡ with_sign true (digits_value 10 (drop 1 s)) → AllDigits 10 (drop 1 s) → 0 < length (drop 1 s)
    → 0 < digits_value 10 (drop 1 s) → digits_value 10 (drop 1 s) < 2 ^ 63 → option_and_then as_integer (number_of s) ≡ Some z
unfolding number_of
minus_are s z minus e h some positive below =
    let within : digits_value 10 (drop 1 s) ≤ 2 ^ 63 = omega arith in
    rw (minus, scanned (drop 1 s) h) (ap (option_and_then as_integer) (from_minus (parts_of (drop 1 s)) _ (valued (drop 1 s)) (is_whole (drop 1 s) some) positive within) ∙ ap Some (sym e))

-- ---- a negation

pub within : (n : ℕ) → 0 < n → n < 2 ^ 63 → SFits w64 (with_sign true n)
within zero some below = absurd (omega arith)
within (suc n) some below = grind (arith, ints)
