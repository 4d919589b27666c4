-- What a JSON text lexes to, from the byte at an index.
use Rattle.std.proofs.Common.{◌≡◌, ℕ, zero, suc, ◌+◌, ◌-◌, ◌*◌, ◌<◌, ◌≤◌, ◌⊎◌, inl, inr, List, [], ◌∷◌, ◌++◌, take, drop, get_or, length, Bool, true, false, cond, ◌==◌, ◌||◌, refl, sym, ap, ◌∙◌, subst, arith, drop-cons, add-zero, negsuc, pos, lt_of_not-le, true≢false, length-drop}
use Rattle.std.proofs.lemmas.List.{take-append-drop, get_or-take, take_more, drop-drop, get_or-drop, get_or_past, get_or_default, length-take-le}
use Rattle.std.proofs.lemmas.Bool.{eqb-true, ne_eqb, or_cases}
use Rattle.std.proofs.lemmas.Int.Digits.{digits_more, digits_value_more}
use Rattle.std.proofs.lemmas.Str.{digit_value_digit}
use Rattle.std.proofs.lemmas.Str.Parse.{tells_digits, numerals_by_value, digit_at}
use Rattle.std.proofs.lemmas.Fmt.{decimal-digits_value}
use Rattle.std.specs.Fmt.{decimal}
use Rattle.std.specs.Char.{digit_value}
use Rattle.std.specs.Str.Parse.{digits_value, AllDigits}
use Rattle.json.specs.Word.{is_operator, is_space, head, ends_word, word}
use Rattle.json.specs.Lex.{token, class, Class, operator, space, operator_lexeme, lex_byte, between, in_word, in_string, string_token, lex}
use Rattle.json.specs.Token.{number, string, boolean, bad}
use Rattle.json.specs.Print.{IsNumber, escape}
use Rattle.json.proofs.Printed.Numbers.{lex-number, in_word-ended}
use Rattle.json.proofs.Printed.Strings.{content-escape, lex-escape, escape_byte_plain}
use Rattle.json.proofs.Printed.Decimals.{IsNumber-decimal, IsNumber-signed_decimal}
use Rattle.std.specs.Bool.{MatchBool}
use Rattle.std.proofs.lemmas.Int.{ints}
use Rattle.fast_float.specs.Text.{with_sign}
use Rattle.json_tokens.specs.Lexed.{AreDigits, IsSizeAt, IsIntegerAt, ArePlain, truth_text, MayEnd}
use Rattle.json_tokens.proofs.Numbers.{digits_are, minus_are, within}

pub next_byte : (text : List ℕ) (at : ℕ) → at < length text → drop at text ≡ get_or text at 0 ∷ drop (at + 1) text
next_byte text at within = let e : suc at ≡ at + 1 = omega arith in subst (λ j. drop at text ≡ get_or text at 0 ∷ drop j text) e (drop-cons text at 0 within)

one_of : (P : ℕ → Type 0) (x c : ℕ) (b : Bool) → P c → (b ≡ true → P x) → (b ≡ true) ⊎ ((x == c) ≡ true) → P x
one_of P x c b p f (inl e) = f e
one_of P x c b p f (inr e) = subst P (sym (eqb-true x c e)) p

blanks : (P : ℕ → Type 0) → P 32 → P 9 → P 10 → P 13 → (x : ℕ) → is_space x ≡ true → P x
blanks P a b c d x h =
    one_of P x 13 _ d (λ i. one_of P x 10 _ c (λ j. one_of P x 9 _ b (λ k. subst P (sym (eqb-true x 32 k)) a) (or_cases _ _ j)) (or_cases _ _ i)) (or_cases _ _ h)

space_class : (x : ℕ) → is_space x ≡ true → class x ≡ space
space_class x h = blanks (λ y. class y ≡ space) refl refl refl refl x h

lexed_class : (x : ℕ) (xs : List ℕ) (c : Class) → class x ≡ c → lex between (x ∷ xs) ≡ lex_byte between c x xs (λ m. lex m xs)
unfolding lex
lexed_class x xs c e = ap (λ k. lex_byte between k x xs (λ m. lex m xs)) e

pub blank_passed : (text : List ℕ) (at : ℕ) → at < length text → is_space (get_or text at 0) ≡ true → lex between (drop (at + 1) text) ≡ lex between (drop at text)
blank_passed text at within e = sym (ap (lex between) (next_byte text at within) ∙ lexed_class (get_or text at 0) (drop (at + 1) text) space (space_class (get_or text at 0) e))

pub operator_lexed : (text : List ℕ) (at c : ℕ) → class c ≡ operator → at < length text → get_or text at 0 ≡ c → lex between (drop at text) ≡ operator_lexeme c ∷ lex between (drop (at + 1) text)
operator_lexed text at c k within e =
    ap (lex between) (next_byte text at within ∙ ap (λ x. x ∷ drop (at + 1) text) e) ∙ lexed_class c (drop (at + 1) text) operator k

pub blank_within : (text : List ℕ) (at : ℕ) → is_space (get_or text at 0) ≡ true → at < length text
blank_within text at e = lt_of_not-le (λ h. true≢false (sym e ∙ ap is_space (get_or_past text at 0 h)))

-- ---- digits

pub one_more_digit : (text : List ℕ) (from at n : ℕ) → from ≤ at → at < length text → 48 ≤ get_or text at 0 → get_or text at 0 ≤ 57 → AllDigits 10 (take (at - from) (drop from text))
    → digits_value 10 (take (at - from) (drop from text)) ≡ n
    → AllDigits 10 (take (at + 1 - from) (drop from text)) × (digits_value 10 (take (at + 1 - from) (drop from text)) ≡ n * 10 + (get_or text at 0 - 48))
one_more_digit text from at n after within low high digits value =
    let bs = drop from text in
    let i = at - from in
    let inside : i < length bs = omega (arith, length-drop from text) in
    let back : from + i ≡ at = omega arith in
    let here : get_or bs i 0 ≡ get_or text at 0 = get_or-drop from text i 0 ∙ ap (λ j. get_or text j 0) back in
    let digit : digit_value (get_or bs i 0) ≡ get_or text at 0 - 48 = omega (arith, here, digit_value_digit (get_or bs i 0) (omega (arith, here), omega (arith, here))) in
    let next : i + 1 ≡ at + 1 - from = omega arith in (
      subst (λ j. AllDigits 10 (take j bs)) next (digits_more 10 bs i inside digits (omega (arith, digit))),
      ap (λ j. digits_value 10 (take j bs)) (sym next) ∙ digits_value_more 10 bs i inside ∙ rw (value, digit) refl,
    )

-- ---- a number

digits_long : (text : List ℕ) (from end : ℕ) → from < end → end ≤ length text → length (take (end - from) (drop from text)) ≡ end - from
digits_long text from end some within = length-take-le (end - from) (drop from text) (omega (arith, length-drop from text))

first_digit : (text : List ℕ) (from end : ℕ) → from < end → get_or (take (end - from) (drop from text)) 0 0 ≡ get_or text from 0
first_digit text from end some = let k : 0 < end - from = omega arith in get_or-take (end - from) (drop from text) 0 0 k ∙ get_or-drop from text 0 0 ∙ ap (λ j. get_or text j 0) (add-zero from)

pub written : (text : List ℕ) (from end n : ℕ) → AreDigits text from end n → (get_or text from 0 ≡ 48 → end - from ≡ 1) → decimal n ≡ take (end - from) (drop from text)
written text from end n d lead =
    let ds = take (end - from) (drop from text) in
    let long = digits_long text from end d.some d.within in
    let first = first_digit text from end d.some in
    ap decimal (sym d.value)
    ∙ decimal-digits_value (numerals_by_value (AllDigits 10) tells_digits) ds d.digits (omega (arith, long, d.some)) (λ e. long ∙ lead (sym first ∙ e)) (omega (arith, d.value, d.below))

-- a number may end before this byte
pub ends : (text : List ℕ) (at : ℕ) → (is_operator (get_or text at 0) || is_space (get_or text at 0)) ≡ true → ends_word (drop at text) ≡ true
ends text at e =
    let within : at < length text = lt_of_not-le (λ h. true≢false (sym e ∙ ap (λ x. is_operator x || is_space x) (get_or_past text at 0 h))) in
    let same : head (drop at text) ≡ get_or text at 0 = get_or-drop at text 0 32 ∙ ap (λ j. get_or text j 32) (add-zero at) ∙ sym (get_or_default text at 0 32 within) in
    ap (λ x. is_operator x || is_space x) same ∙ e

split : (text : List ℕ) (from end : ℕ) → from < end → drop from text ≡ take (end - from) (drop from text) ++ drop end text
split text from end some =
    let e : from + (end - from) ≡ end = omega arith in
    sym (take-append-drop (end - from) (drop from text)) ∙ ap (λ r. take (end - from) (drop from text) ++ r) (drop-drop (end - from) from text ∙ ap (λ j. drop j text) e)

pub number_lexed : (text : List ℕ) (from end n : ℕ) → AreDigits text from end n → (get_or text from 0 ≡ 48 → end - from ≡ 1)
    → (is_operator (get_or text end 0) || is_space (get_or text end 0)) ≡ true
    → lex between (drop from text) ≡ token (number (take (end - from) (drop from text))) ∷ lex between (drop end text)
number_lexed text from end n d lead stop =
    let ds = take (end - from) (drop from text) in
    let is : IsNumber ds = subst IsNumber (written text from end n d lead) (IsNumber-decimal n (omega (arith, d.below))) in
    ap (lex between) (split text from end d.some) ∙ lex-number ds (drop end text) is (ends text end stop)

-- with a minus before it
pub negative_lexed : (text : List ℕ) (from end n : ℕ) → from < length text → get_or text from 0 ≡ 45 → AreDigits text (from + 1) end n → (get_or text (from + 1) 0 ≡ 48 → end - (from + 1) ≡ 1) → 0 < n
    → (is_operator (get_or text end 0) || is_space (get_or text end 0)) ≡ true
    → lex between (drop from text) ≡ token (number (45 ∷ take (end - (from + 1)) (drop (from + 1) text))) ∷ lex between (drop end text)
negative_lexed text from end zero within minus d lead some stop = absurd (omega arith)
negative_lexed text from end (suc n) within minus d lead some stop =
    let ds = take (end - (from + 1)) (drop (from + 1) text) in
    let is : IsNumber (45 ∷ ds) = subst (λ s. IsNumber (45 ∷ s)) (written text (from + 1) end (suc n) d lead) (IsNumber-signed_decimal (negsuc n) (omega (arith, d.below))) in
    let apart : drop from text ≡ 45 ∷ (ds ++ drop end text) = next_byte text from within ∙ ap (λ x. x ∷ drop (from + 1) text) minus ∙ ap (λ r. 45 ∷ r) (split text (from + 1) end d.some) in
    ap (lex between) apart ∙ lex-number (45 ∷ ds) (drop end text) is (ends text end stop)

-- a number behind a minus is not zero
pub some_size : (minus : Bool) (n : ℕ) → ((minus ≡ true) × (n ≡ 0 → ⊥)) ⊎ (minus ≡ false) → minus ≡ true → 0 < n
some_size minus n (inl h) e = omega (arith, h.1)
some_size minus n (inr f) e = absurd (true≢false (sym e ∙ f))

-- ---- an integer

pub integer_is : (text : List ℕ) (from first end n : ℕ) (minus : Bool) → MatchBool minus ((get_or text from 0 ≡ 45) × (from < length text) × (first ≡ from + 1)) (first ≡ from)
    → IsSizeAt text first end n → (minus ≡ true → 0 < n) → MayEnd text end → IsIntegerAt text from (with_sign minus n) end
integer_is text from first end n true sign d some stop =
    let size : IsSizeAt text (from + 1) end n = subst (λ f. IsSizeAt text f end n) sign.2 d in
    let ds = take (end - (from + 1)) (drop (from + 1) text) in
    let a = size.digits in
    let long = digits_long text (from + 1) end a.some a.within in
    record {
      written = 45 ∷ ds;
      lexed = negative_lexed text from end n sign.1 sign.0 a size.lead (some refl) stop;
      whole = minus_are (45 ∷ ds) (with_sign true n) refl (ap (with_sign true) (sym a.value)) a.digits (omega (arith, long, a.some)) (omega (arith, a.value, some refl)) (omega (arith, a.value, a.below));
      fits = within n (some refl) (omega (arith, a.below));
      within = a.within;
    }
integer_is text from first end n false sign d some stop =
    let size : IsSizeAt text from end n = subst (λ f. IsSizeAt text f end n) sign d in
    let ds = take (end - from) (drop from text) in
    let a = size.digits in
    let long = digits_long text from end a.some a.within in
    let top = digit_at ds 0 a.digits (omega (arith, long, a.some)) in
    record {
      written = ds;
      lexed = number_lexed text from end n a size.lead stop;
      whole = digits_are ds (pos n) (ne_eqb (get_or ds 0 0) 45 (λ e. omega (arith, e, top.0))) (ap pos (sym a.value)) a.digits (omega (arith, long, a.some)) (grind (arith, ints, a.below));
      fits = grind (arith, ints, a.below);
      within = a.within;
    }

-- ---- a string without escapes

pub plain_push : (xs : List ℕ) (x : ℕ) → ArePlain xs → 32 ≤ x → (x ≡ 34 → ⊥) → (x ≡ 92 → ⊥) → ArePlain (xs ++ x ∷ [])
plain_push [] x h low quote backslash = (low, quote, backslash, tt)
plain_push (y ∷ ys) x h low quote backslash = (h.0, h.1, h.2, plain_push ys x h.3 low quote backslash)

pub plain_more : (text : List ℕ) (from at : ℕ) → from ≤ at → at < length text → ArePlain (take (at - from) (drop from text)) → 32 ≤ get_or text at 0 → (get_or text at 0 ≡ 34 → ⊥) → (get_or text at 0 ≡ 92 → ⊥)
    → ArePlain (take (at + 1 - from) (drop from text))
plain_more text from at after within h low quote backslash =
    let bs = drop from text in
    let i = at - from in
    let inside : i < length bs = omega (arith, length-drop from text) in
    let back : from + i ≡ at = omega arith in
    let here : get_or bs i 0 ≡ get_or text at 0 = get_or-drop from text i 0 ∙ ap (λ j. get_or text j 0) back in
    let next : i + 1 ≡ at + 1 - from = omega arith in
    let more : take (at + 1 - from) bs ≡ take i bs ++ get_or text at 0 ∷ [] = ap (λ j. take j bs) (sym next) ∙ take_more bs i 0 inside ∙ ap (λ x. take i bs ++ x ∷ []) here in
    subst ArePlain (sym more) (plain_push (take i bs) (get_or text at 0) h low quote backslash)

escaped : (xs : List ℕ) → ArePlain xs → escape xs ≡ xs
escaped [] h = refl
escaped (x ∷ xs) h = ap (λ s. s ++ escape xs) (escape_byte_plain x h.1 h.2 h.0) ∙ ap (λ s. x ∷ s) (escaped xs h.3)

pub string_lexed : (text : List ℕ) (from end : ℕ) → from < length text → get_or text from 0 ≡ 34 → from + 1 ≤ end → ArePlain (take (end - (from + 1)) (drop (from + 1) text)) → end < length text → get_or text end 0 ≡ 34
    → lex between (drop from text) ≡ token (string (take (end - (from + 1)) (drop (from + 1) text))) ∷ lex between (drop (end + 1) text)
unfolding lex
string_lexed text from end within quote after plain inside closing =
    let s = take (end - (from + 1)) (drop (from + 1) text) in
    let r = drop (end + 1) text in
    let tail : drop end text ≡ 34 ∷ r = next_byte text end inside ∙ ap (λ x. x ∷ r) closing in
    let e : from + 1 + (end - (from + 1)) ≡ end = omega arith in
    let same : drop (from + 1) text ≡ s ++ 34 ∷ r =
    sym (take-append-drop (end - (from + 1)) (drop (from + 1) text)) ∙ ap (λ t. s ++ t) (drop-drop (end - (from + 1)) (from + 1) text ∙ ap (λ j. drop j text) e ∙ tail) in
    let whole : drop from text ≡ 34 ∷ (escape s ++ 34 ∷ r) = next_byte text from within ∙ ap (λ x. x ∷ drop (from + 1) text) quote ∙ ap (λ t. 34 ∷ t) (same ∙ ap (λ u. u ++ 34 ∷ r) (sym (escaped s plain))) in
    ap (lex between) whole ∙ ap (λ o. token (string_token o) ∷ lex in_string (escape s ++ 34 ∷ r)) (content-escape s r) ∙ ap (λ ls. token (string s) ∷ ls) (lex-escape s r)

-- ---- a boolean

pub word_split : (text w : List ℕ) (from n : ℕ) → take n (drop from text) ≡ w → drop from text ≡ w ++ drop (from + n) text
word_split text w from n e = sym (take-append-drop n (drop from text)) ∙ ap (λ t. t ++ drop n (drop from text)) e ∙ ap (λ t. w ++ t) (drop-drop n from text)

in_boolean : (b : Bool) (rest : List ℕ) → ends_word rest ≡ true → lex between (truth_text b ++ rest) ≡ token (boolean b) ∷ lex in_word rest
unfolding lex word
in_boolean true rest ended = ap (λ e. token (cond e (boolean true) bad) ∷ lex in_word rest) ended
in_boolean false rest ended = ap (λ e. token (cond e (boolean false) bad) ∷ lex in_word rest) ended

pub boolean_lexed : (text : List ℕ) (from end : ℕ) (b : Bool) → drop from text ≡ truth_text b ++ drop end text → (is_operator (get_or text end 0) || is_space (get_or text end 0)) ≡ true
    → lex between (drop from text) ≡ token (boolean b) ∷ lex between (drop end text)
boolean_lexed text from end b e stop =
    let ended = ends text end stop in
    ap (lex between) e ∙ in_boolean b (drop end text) ended ∙ ap (λ ls. token (boolean b) ∷ ls) (in_word-ended (drop end text) ended)
