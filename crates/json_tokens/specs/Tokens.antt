-- The model of a cursor.
use Rattle.std.specs.Prelude.{◌≡◌, ◌⊎◌, ℕ, ◌==◌, if◌then◌else◌, List, Bool, true, false}
use Rattle.json.specs.Ascii.{open_bracket, open_brace}
use Rattle.json.specs.Token.{Token, begin_array, begin_object}
use Rattle.json.specs.Lex.{between, lex, fresh, after_value, after_comma, punctuate}
use Rattle.json_tokens.specs.declared.place.Place.{Place}
use Rattle.json_tokens.specs.declared.place.Place.TheVariants.{Fresh, AfterValue, AfterComma}

-- The tokens of a text from a place on.
abbrev pub tokens_from : Place → List ℕ → List Token
tokens_from Fresh text = punctuate fresh (lex between text)
tokens_from AfterValue text = punctuate after_value (lex between text)
tokens_from AfterComma text = punctuate after_comma (lex between text)

-- Whether a value or a key may begin at a place.
abbrev pub begins_at : Place → Bool
begins_at Fresh = true
begins_at AfterValue = false
begins_at AfterComma = true

-- Whether a closing bracket may stand at a place.
abbrev pub closes_at : Place → Bool
closes_at Fresh = true
closes_at AfterValue = true
closes_at AfterComma = false

-- The byte opens an array or an object.
abbrev pub IsOpening : ℕ → Type 0
IsOpening mark = (mark ≡ open_bracket) ⊎ (mark ≡ open_brace)

-- The token of a byte that opens an array or an object.
abbrev pub opened_by : ℕ → Token
opened_by mark = if mark == open_bracket then begin_array else begin_object
