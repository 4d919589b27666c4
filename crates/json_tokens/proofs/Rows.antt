-- The mask of a row of integers: shifted as bytes are passed, and the digits before its lowest bit.
use Rattle.std.proofs.Common.{◌≡◌, ℕ, ℤ, w64, to_z, of_z, to_z-of_z, zero, suc, ◌+◌, ◌-◌, ◌*◌, ◌/◌, ◌<◌, ◌≤◌, ◌^◌, List, [], ◌∷◌, length, take, drop, map, get_or, cond, not, Bool, true, false, refl, sym, ap, subst, ◌∙◌, arith}
use Rattle.std.specs.List.{prefix_len}
use Rattle.std.specs.Int.Digits.{AllBelowBase}
use Rattle.std.proofs.lemmas.Simd.{trailing_mask_l, length-chunk}
use Rattle.std.proofs.lemmas.List.{length-map, take-map, drop-map, drop-take, drop-drop}
use Rattle.std.proofs.lemmas.Nat.{shr-shr, shr_le}
use lib.Count.{count_trailing_zeros}
use lib.Lanes.{mask_l, chunk}
use Rattle.json.specs.Token.{Token}
use Rattle.json.specs.Word.{is_space}
use Rattle.json.specs.Lex.{after_value, after_comma, between, lex, punctuate}
use Rattle.fast_float.specs.Text.{with_sign}
use Rattle.std.specs.Bool.{MatchBool}
use Rattle.json_tokens.specs.declared.place.Place.{Place}
use Rattle.json_tokens.specs.Eight.{BeginsWithDigits, offset, is_other}
use Rattle.json_tokens.specs.Lexed.{IsSizeAt, MayEnd, TookInteger}
use Rattle.json_tokens.specs.Tokens.{tokens_from, begins_at}
use Rattle.json_tokens.specs.Row.{IsAhead}
use Rattle.json_tokens.proofs.Eights.{prefix_below, take_take}
use Rattle.json_tokens.proofs.Lexing.{integer_is, operator_lexed, blank_passed}
use Rattle.json_tokens.proofs.Places.{number_next, comma_passed}

-- ---- a mask that is shifted

half : (m : Bool) (n : ℕ) → (cond m 1 0 + 2 * n) / 2 ≡ n
half true n = omega arith
half false n = omega arith

mask_shifted : (ms : List Bool) (k : ℕ) → mask_l ms / 2 ^ k ≡ mask_l (drop k ms)
mask_shifted ms zero = omega arith
mask_shifted [] (suc k) = let low = shr_le 0 (suc k) in omega (arith, low)
mask_shifted (m ∷ ms) (suc k) = let e : suc k ≡ 1 + k = omega arith in ap (λ j. mask_l (m ∷ ms) / 2 ^ j) e ∙ sym (shr-shr (mask_l (m ∷ ms)) 1 k) ∙ ap (λ n. n / 2 ^ k) (half m (mask_l ms)) ∙ mask_shifted ms k

chunk_dropped : (text : List ℕ) (at k left : ℕ) → drop k (chunk at (k + left) text) ≡ chunk (at + k) left text
chunk_dropped text at k left = drop-take k left (drop at text) ∙ ap (take left) (drop-drop k at text)

lanes_dropped : (text : List ℕ) (at k left : ℕ) → drop k (map is_other (map offset (chunk at (k + left) text))) ≡ map is_other (map offset (chunk (at + k) left text))
lanes_dropped text at k left =
    drop-map is_other k (map offset (chunk at (k + left) text)) ∙ ap (map is_other) (drop-map offset k (chunk at (k + left) text)) ∙ ap (λ xs. map is_other (map offset xs)) (chunk_dropped text at k left)

pub passed : (text : List ℕ) (at mask k : ℕ) → (a : IsAhead text at mask) → k ≤ a.count → IsAhead text (at + k) (mask / 2 ^ k)
passed text at mask k a le =
    let left = a.count - k in
    let whole : a.count ≡ k + left = omega (arith, le) in
    let within = a.within in
    let most = a.most in
    record {
      count = left;
      most = omega (arith, most);
      within = omega (arith, within, le);
      marks = ap (λ m. m / 2 ^ k) (a.marks ∙ ap (λ n. mask_l (map is_other (map offset (chunk at n text)))) whole) ∙ mask_shifted _ k ∙ ap mask_l (lanes_dropped text at k left);
    }

-- ---- the digits before the lowest bit

some_count : (text : List ℕ) (at mask count : ℕ) → mask ≡ mask_l (map is_other (map offset (chunk at count text))) → (mask ≡ 0 → ⊥) → 0 < count
some_count text at mask zero e some = absurd (some e)
some_count text at mask (suc n) e some = omega arith

pub some_left : (text : List ℕ) (at mask : ℕ) → (a : IsAhead text at mask) → (mask ≡ 0 → ⊥) → 0 < a.count
some_left text at mask a some = some_count text at mask a.count a.marks some

one_more : (b : Bool) (n k : ℕ) → n ≤ k → cond b (1 + n) 0 ≤ suc k
one_more true n k le = omega (arith, le)
one_more false n k le = omega arith

prefix_le : (xs : List ℕ) → prefix_len (λ d. not (is_other d)) xs ≤ length xs
prefix_le [] = omega arith
prefix_le (x ∷ xs) = one_more (not (is_other x)) (prefix_len (λ d. not (is_other d)) xs) (length xs) (prefix_le xs)

abbrev pub lanes : List ℕ → ℕ → ℕ → List ℕ
lanes text at count = map offset (chunk at count text)

pub counted : (text : List ℕ) (at mask : ℕ) → (a : IsAhead text at mask) → (mask ≡ 0 → ⊥) → count_trailing_zeros 64 mask ≡ prefix_len (λ d. not (is_other d)) (lanes text at a.count)
counted text at mask a some =
    let within = a.within in
    let most = a.most in
    let long : length (lanes text at a.count) ≡ a.count = length-map (chunk at a.count text) offset ∙ length-chunk at a.count text (omega (arith, within)) in
    ap (count_trailing_zeros 64) a.marks ∙ trailing_mask_l is_other 64 (lanes text at a.count) (omega (arith, long, most)) (let marks = a.marks in omega (arith, marks, some))

pub digits_within : (text : List ℕ) (at mask : ℕ) → (a : IsAhead text at mask) → (mask ≡ 0 → ⊥) → count_trailing_zeros 64 mask ≤ a.count
digits_within text at mask a some =
    let within = a.within in
    let long : length (lanes text at a.count) ≡ a.count = length-map (chunk at a.count text) offset ∙ length-chunk at a.count text (omega (arith, within)) in
    let few = prefix_le (lanes text at a.count) in
    let same = counted text at mask a some in
    omega (arith, long, few, same)

same_digits : (text : List ℕ) (at n count : ℕ) → n ≤ count → take n (lanes text at count) ≡ map offset (take n (drop at text))
same_digits text at n count le = take-map offset n (chunk at count text) ∙ ap (map offset) (take_take n count (drop at text) le)

pub begins : (text v : List ℕ) (at mask n : ℕ) → (a : IsAhead text at mask) → (mask ≡ 0 → ⊥) → n ≡ count_trailing_zeros 64 mask → (n ≡ 0 → ⊥) → n < 8
    → v ≡ map offset (chunk at 8 text) → BeginsWithDigits v n
begins text v at mask n a mask_some is some few e =
    let within = a.within in
    let least = digits_within text at mask a mask_some in
    let same = is ∙ counted text at mask a mask_some in
    let below : AllBelowBase 10 (take n (lanes text at a.count)) = prefix_below n (lanes text at a.count) (omega (arith, same)) in
    let equal : take n (lanes text at a.count) ≡ take n v = same_digits text at n a.count (omega (arith, is, least)) ∙ sym (ap (take n) e ∙ same_digits text at n 8 (omega (arith, few))) in
    record {
      eight = ap length e ∙ length-map (chunk at 8 text) offset ∙ length-chunk at 8 text (omega (arith, within));
      some = omega (arith, some);
      most = omega (arith, few);
      digits = subst (AllBelowBase 10) equal below;
    }

-- ---- the tokens

pub integer_taken : (text : List ℕ) (from first end n : ℕ) (minus : Bool) (p : Place) → MatchBool minus ((get_or text from 0 ≡ 45) × (from < length text) × (first ≡ from + 1)) (first ≡ from)
    → IsSizeAt text first end n → (minus ≡ true → 0 < n) → MayEnd text end → begins_at p ≡ true
    → TookInteger (tokens_from p (drop from text)) (with_sign minus n) (punctuate after_value (lex between (drop end text)))
integer_taken text from first end n minus p sign size some stop may =
    let is = integer_is text from first end n minus sign size some stop in
    record { written = is.written; first = number_next p (drop from text) is.written _ may is.lexed; whole = is.whole; fits = is.fits }

pub at_64_bits : (old : List Token) (z : ℤ) (new : List Token) → TookInteger old z new → TookInteger old (to_z w64 (of_z w64 z)) new
at_64_bits old z new t = rw (to_z-of_z t.fits) t

pub then_gap : (old : List Token) (z : ℤ) (new next : List Token) → TookInteger old z new → new ≡ next → TookInteger old z next
then_gap old z new next t e = subst (TookInteger old z) e t

pub comma_taken : (text : List ℕ) (at next : ℕ) → get_or text at 0 ≡ 44 → at < length text → next ≡ at + 1
    → punctuate after_comma (lex between (drop next text)) ≡ punctuate after_value (lex between (drop at text))
comma_taken text at next here within e = ap (λ k. punctuate after_comma (lex between (drop k text))) e ∙ sym (comma_passed _ _ (operator_lexed text at 44 refl within here))

pub space_taken : (text : List ℕ) (at next : ℕ) → get_or text at 0 ≡ 32 → at < length text → next ≡ at + 1 → lex between (drop next text) ≡ lex between (drop at text)
space_taken text at next here within e = ap (λ k. lex between (drop k text)) e ∙ blank_passed text at within (ap is_space here ∙ refl)
