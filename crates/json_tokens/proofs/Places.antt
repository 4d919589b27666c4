-- The tokens from a place on, by the lexeme that is next.
use Rattle.std.proofs.Common.{◌≡◌, ℕ, ◌<◌, List, [], ◌∷◌, drop, get_or, length, Bool, true, false, ◌||◌, Option, Some, None, IfSome, inl, inr, refl, sym, ap, ◌∙◌, arith}
use Rattle.std.proofs.lemmas.Bool.{false≢true}
use Rattle.std.proofs.lemmas.List.{drop_all}
use Rattle.json.specs.Token.{Token, begin_array, begin_object, end_array, end_object, key, string, number, boolean}
use Rattle.json.specs.Lex.{Lexeme, token, comma, colon, between, lex, fresh, after_value, after_comma, begins_colon, punctuate, class, operator, operator_lexeme}
use Rattle.json.specs.Json.{after_end_array}
use Rattle.json_tokens.specs.declared.place.Place.{Place}
use Rattle.json_tokens.specs.declared.place.Place.TheVariants.{Fresh, AfterValue, AfterComma}
use Rattle.json.specs.Word.{is_operator, is_space}
use Rattle.json_tokens.specs.Lexed.{GoesOn, MayEnd}
use Rattle.json_tokens.proofs.Lexing.{operator_lexed}
use Rattle.json_tokens.specs.Tokens.{tokens_from, begins_at, closes_at, IsOpening, opened_by}

pub if_some : {A : Type 0} {P Q : A → Type 0} (found : Option A) → ((x : A) → P x → Q x) → IfSome found P → IfSome found Q
if_some None f h = tt
if_some (Some x) f h = f x h

abbrev tokens_of : Place → List Lexeme → List Token
tokens_of Fresh ls = punctuate fresh ls
tokens_of AfterValue ls = punctuate after_value ls
tokens_of AfterComma ls = punctuate after_comma ls

same : (p : Place) (text : List ℕ) (ls : List Lexeme) → lex between text ≡ ls → tokens_from p text ≡ tokens_of p ls
same Fresh text ls e = ap (punctuate fresh) e
same AfterValue text ls e = ap (punctuate after_value) e
same AfterComma text ls e = ap (punctuate after_comma) e

opened_array : (p : Place) (ls : List Lexeme) → begins_at p ≡ true → tokens_of p (token begin_array ∷ ls) ≡ begin_array ∷ punctuate fresh ls
unfolding punctuate
opened_array Fresh ls e = refl
opened_array AfterValue ls e = absurd (false≢true e)
opened_array AfterComma ls e = refl

array_opens : (p : Place) (text : List ℕ) (ls : List Lexeme) → begins_at p ≡ true → lex between text ≡ token begin_array ∷ ls → tokens_from p text ≡ begin_array ∷ punctuate fresh ls
array_opens p text ls may e = same p text _ e ∙ opened_array p ls may

opened_object : (p : Place) (ls : List Lexeme) → begins_at p ≡ true → tokens_of p (token begin_object ∷ ls) ≡ begin_object ∷ punctuate fresh ls
unfolding punctuate
opened_object Fresh ls e = refl
opened_object AfterValue ls e = absurd (false≢true e)
opened_object AfterComma ls e = refl

object_opens : (p : Place) (text : List ℕ) (ls : List Lexeme) → begins_at p ≡ true → lex between text ≡ token begin_object ∷ ls → tokens_from p text ≡ begin_object ∷ punctuate fresh ls
object_opens p text ls may e = same p text _ e ∙ opened_object p ls may

pub opening_operator : (mark : ℕ) → IsOpening mark → (0 < mark) × (class mark ≡ operator)
opening_operator mark (inl e) = (omega (arith, e), ap class e)
opening_operator mark (inr e) = (omega (arith, e), ap class e)

pub opens : (mark : ℕ) (p : Place) (text : List ℕ) (ls : List Lexeme) → IsOpening mark → begins_at p ≡ true → lex between text ≡ operator_lexeme mark ∷ ls
    → tokens_from p text ≡ opened_by mark ∷ punctuate fresh ls
opens mark p text ls (inl e) may is = array_opens p text ls may (is ∙ ap (λ m. operator_lexeme m ∷ ls) e) ∙ ap (λ m. opened_by m ∷ punctuate fresh ls) (sym e)
opens mark p text ls (inr e) may is = object_opens p text ls may (is ∙ ap (λ m. operator_lexeme m ∷ ls) e) ∙ ap (λ m. opened_by m ∷ punctuate fresh ls) (sym e)

closed_array : (p : Place) (ls : List Lexeme) → closes_at p ≡ true → tokens_of p (token end_array ∷ ls) ≡ end_array ∷ punctuate after_value ls
unfolding punctuate
closed_array Fresh ls e = refl
closed_array AfterValue ls e = refl
closed_array AfterComma ls e = absurd (false≢true e)

pub array_closes : (p : Place) (text : List ℕ) (ls : List Lexeme) → closes_at p ≡ true → lex between text ≡ token end_array ∷ ls
    → after_end_array (tokens_from p text) ≡ Some (punctuate after_value ls)
array_closes p text ls may e = ap after_end_array (same p text _ e ∙ closed_array p ls may)

closed_object : (p : Place) (ls : List Lexeme) → closes_at p ≡ true → tokens_of p (token end_object ∷ ls) ≡ end_object ∷ punctuate after_value ls
unfolding punctuate
closed_object Fresh ls e = refl
closed_object AfterValue ls e = refl
closed_object AfterComma ls e = absurd (false≢true e)

pub object_closes : (p : Place) (text : List ℕ) (ls : List Lexeme) → closes_at p ≡ true → lex between text ≡ token end_object ∷ ls
    → tokens_from p text ≡ end_object ∷ punctuate after_value ls
object_closes p text ls may e = same p text _ e ∙ closed_object p ls may

number_first : (p : Place) (s : List ℕ) (ls : List Lexeme) → begins_at p ≡ true → tokens_of p (token (number s) ∷ ls) ≡ number s ∷ punctuate after_value ls
unfolding punctuate
number_first Fresh s ls e = refl
number_first AfterValue s ls e = absurd (false≢true e)
number_first AfterComma s ls e = refl

pub number_next : (p : Place) (text s : List ℕ) (ls : List Lexeme) → begins_at p ≡ true → lex between text ≡ token (number s) ∷ ls
    → tokens_from p text ≡ number s ∷ punctuate after_value ls
number_next p text s ls may e = same p text _ e ∙ number_first p s ls may

boolean_first : (p : Place) (b : Bool) (ls : List Lexeme) → begins_at p ≡ true → tokens_of p (token (boolean b) ∷ ls) ≡ boolean b ∷ punctuate after_value ls
unfolding punctuate
boolean_first Fresh s ls e = refl
boolean_first AfterValue s ls e = absurd (false≢true e)
boolean_first AfterComma s ls e = refl

pub boolean_next : (p : Place) (text : List ℕ) (b : Bool) (ls : List Lexeme) → begins_at p ≡ true → lex between text ≡ token (boolean b) ∷ ls
    → tokens_from p text ≡ boolean b ∷ punctuate after_value ls
boolean_next p text b ls may e = same p text _ e ∙ boolean_first p b ls may

string_first : (p : Place) (s : List ℕ) (ls : List Lexeme) → begins_at p ≡ true → begins_colon ls ≡ false → tokens_of p (token (string s) ∷ ls) ≡ string s ∷ punctuate after_value ls
unfolding punctuate
string_first Fresh s ls e f = rw f refl
string_first AfterValue s ls e f = absurd (false≢true e)
string_first AfterComma s ls e f = rw f refl

pub string_next : (p : Place) (text s : List ℕ) (ls : List Lexeme) → begins_at p ≡ true → lex between text ≡ token (string s) ∷ ls → begins_colon ls ≡ false
    → tokens_from p text ≡ string s ∷ punctuate after_value ls
string_next p text s ls may e f = same p text _ e ∙ string_first p s ls may f

key_first : (p : Place) (s : List ℕ) (ls : List Lexeme) → begins_at p ≡ true → tokens_of p (token (string s) ∷ colon ∷ ls) ≡ key s ∷ punctuate fresh ls
unfolding punctuate
key_first Fresh s ls e = refl
key_first AfterValue s ls e = absurd (false≢true e)
key_first AfterComma s ls e = refl

pub key_next : (p : Place) (text s : List ℕ) (ls : List Lexeme) → begins_at p ≡ true → lex between text ≡ token (string s) ∷ colon ∷ ls
    → tokens_from p text ≡ key s ∷ punctuate fresh ls
key_next p text s ls may e = same p text _ e ∙ key_first p s ls may

pub comma_passed : (ls rest : List Lexeme) → ls ≡ comma ∷ rest → punctuate after_value ls ≡ punctuate after_comma rest
unfolding punctuate
comma_passed ls rest e = ap (punctuate after_value) e

-- what stands before a comma or a closing bracket is no key
pub no_colon : (text : List ℕ) (at : ℕ) → at < length text → GoesOn (get_or text at 0) → begins_colon (lex between (drop at text)) ≡ false
no_colon text at within (inl e) = ap begins_colon (operator_lexed text at 44 refl within e)
no_colon text at within (inr (inl e)) = ap begins_colon (operator_lexed text at 93 refl within e)
no_colon text at within (inr (inr e)) = ap begins_colon (operator_lexed text at 125 refl within e)

pub goes_on_within : (text : List ℕ) (at : ℕ) → GoesOn (get_or text at 0) → 0 < get_or text at 0
goes_on_within text at (inl e) = omega (arith, e)
goes_on_within text at (inr (inl e)) = omega (arith, e)
goes_on_within text at (inr (inr e)) = omega (arith, e)

ended : (p : Place) → closes_at p ≡ true → tokens_of p [] ≡ []
unfolding punctuate
ended Fresh e = refl
ended AfterValue e = refl
ended AfterComma e = absurd (false≢true e)

nothing_lexed : lex between [] ≡ []
unfolding lex
nothing_lexed = refl

pub over : (p : Place) (text : List ℕ) (at next : ℕ) → closes_at p ≡ true → lex between (drop next text) ≡ lex between (drop at text) → next ≡ length text → tokens_from p (drop at text) ≡ []
over p text at next may skipped e =
    let none : drop next text ≡ [] = drop_all next text (omega (arith, e)) in
    same p (drop at text) [] (sym skipped ∙ ap (lex between) none ∙ nothing_lexed) ∙ ended p may

pub may_end_at : (text : List ℕ) (at c : ℕ) → get_or text at 0 ≡ c → (is_operator c || is_space c) ≡ true → MayEnd text at
may_end_at text at c e may = ap (λ x. is_operator x || is_space x) e ∙ may
