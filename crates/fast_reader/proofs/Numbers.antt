-- What one token says.
use Rattle.std.proofs.Common.{◌≡◌, ℕ, ◌<◌, ◌≤◌, ℤ, pos, List, ◌∷◌, option_map, Bool, Option, Some, None, option_and_then, refl, sym, ap, ◌∙◌, arith}
use Rattle.std.proofs.lemmas.Int.{ints}
use Rattle.json.specs.Token.{Token}
use Rattle.json.specs.Json.{value}
use Rattle.json.proofs.Grammar.{value_is}
use Rattle.serde_json.specs.Data.{Data, Num, number, string, boolean}
use Rattle.list_json.specs.Json.{text, truth}
use Rattle.json_tokens.specs.Lexed.{TookInteger}
use Rattle.list_json.specs.Denotes.{IsIntegerWithin, IsIndex}
use Rattle.serde_json.specs.Find.{as_integer}
use Rattle.serde_json.specs.Read.{number_of, of_json, converted}
use Rattle.fast_reader.specs.Took.{Took, IsNumber}

-- ---- the token

some_number : (o : Option Num) (z : ℤ) → option_and_then as_integer o ≡ Some z → (n : Num) × (o ≡ Some n) × (as_integer n ≡ Some z)
some_number None z e = absurd (cc)
some_number (Some n) z e = (n, refl, e)

pub took_number : (s : List ℕ) (z : ℤ) (old new : List Token) → old ≡ Token.number s ∷ new → option_and_then as_integer (number_of s) ≡ Some z → Took 0 IsNumber old z new
took_number s z old new first e =
    let n = some_number (number_of s) z e in
    record {
      seen = number n.0;
      is = n.2;
      read = λ depth deep. ap (λ ts. converted of_json (value depth ts)) first ∙ ap (converted of_json) (value_is depth (Token.number s ∷ new)) ∙ ap (λ o. option_map (λ b. (b, new)) (option_map number o)) n.1;
    }

-- the same value, which is also something else
pub took_also : {X Y : Type 0} (levels : ℕ) (Is : Data → X → Type 0) (Also : Data → Y → Type 0) (old new : List Token) (x : X) (y : Y) → ((d : Data) → Is d x → Also d y)
    → Took levels Is old x new → Took levels Also old y new
took_also levels Is Also old new x y f t = record { seen = t.seen; is = f t.seen t.is; read = t.read }

abbrev pub Text : Data → List ℕ → Type 0
Text d t = text (Some d) ≡ Some t

pub took_text : (s : List ℕ) (old new : List Token) → old ≡ Token.string s ∷ new → Took 0 Text old s new
took_text s old new first = record {
  seen = string s;
  is = refl;
  read = λ depth deep. ap (λ ts. converted of_json (value depth ts)) first ∙ ap (converted of_json) (value_is depth (Token.string s ∷ new));
}

pub took_truth : (b : Bool) (old new : List Token) → old ≡ Token.boolean b ∷ new → Took 0 (λ d t. truth (Some d) ≡ Some t) old b new
took_truth b old new first = record {
  seen = boolean b;
  is = refl;
  read = λ depth deep. ap (λ ts. converted of_json (value depth ts)) first ∙ ap (converted of_json) (value_is depth (Token.boolean b ∷ new));
}

pub took_integer : (old : List Token) (z : ℤ) (new : List Token) → TookInteger old z new → Took 0 IsNumber old z new
took_integer old z new t = took_number t.written z old new t.first t.whole

pub took_up_to : (high n k : ℕ) (old new : List Token) → TookInteger old (pos n) new → k ≡ n → k ≤ high → Took 0 (λ d k. IsIntegerWithin (pos 0) (pos high) (Some d) (pos k)) old k new
took_up_to high n k old new t same within =
    took_also 0 IsNumber (λ d k. IsIntegerWithin (pos 0) (pos high) (Some d) (pos k)) old new (pos n) k (λ d is. (is ∙ ap (λ m. Some (pos m)) (sym same), grind (arith, ints), grind (arith, ints))) (took_integer old (pos n) new t)

pub took_index : (count n k : ℕ) (old new : List Token) → TookInteger old (pos n) new → k ≡ n → k < count → Took 0 (λ d k. IsIndex count (Some d) k) old k new
took_index count n k old new t same within =
    took_also 0 IsNumber (λ d k. IsIndex count (Some d) k) old new (pos n) k (λ d is. (is ∙ ap (λ m. Some (pos m)) (sym same), within)) (took_integer old (pos n) new t)
