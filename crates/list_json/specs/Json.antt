-- What the reader sees of a JSON value: the parts that a key or a position names, and the integer, string, boolean or array that a
-- part is.
use Rattle.std.specs.Prelude.{ℕ, ℤ, ◌||◌, List, Bool, false, not, if◌then◌else◌, Option, Some, None, option_map, option_and_then, unwrap_or, bytes_eq}
use Rattle.std.specs.List.{list_any}
use Rattle.std.specs.Str.{is_utf8}
use Rattle.serde_json.specs.Data.{Data, Items, no_items, Members, no_members, member}
use Rattle.serde_json.specs.Events.{items_len}
use Rattle.serde_json.specs.Find.{at, as_bool, as_number, as_integer, as_str, as_array}
use Rattle.serde_json.specs.Read.{read}

-- The JSON value (RFC 8259) that serde_json reads from the bytes: `None` if they are no UTF-8 or no JSON text.
abbrev pub json_of : List ℕ → Option Data
json_of bytes = if is_utf8 bytes then read bytes else None

-- The integer that the value is: signed or unsigned, of 64 bits. `None` for a number written with a fraction or an exponent.
abbrev pub whole : Option Data → Option ℤ
whole value = option_and_then as_integer (option_and_then as_number value)

-- The string that the value is, and `None` for another value.
abbrev pub text : Option Data → Option (List ℕ)
text value = option_and_then as_str value

-- The boolean that the value is, and `None` for another value.
abbrev pub truth : Option Data → Option Bool
truth value = option_and_then as_bool value

-- The elements of the array that the value is, and `None` for another value.
abbrev pub array_of : Option Data → Option Items
array_of value = option_and_then as_array value

-- How many elements the array has that the value is, and `None` for another value.
abbrev pub length_of : Option Data → Option ℕ
length_of value = option_map items_len (array_of value)

-- Element k of an array, and `None` past its end and of another value.
abbrev pub element : ℕ → Option Data → Option Data
element k value = option_and_then (at k) value

-- The elements of an array, and none of another value.
abbrev pub elements : Option Data → Items
elements value = unwrap_or (array_of value) no_items

-- How many elements an array has, and 0 for another value.
abbrev pub count : Option Data → ℕ
count value = items_len (elements value)

-- Whether one of the names is this one.
abbrev pub is_among : List (List ℕ) → List ℕ → Bool
is_among names name = list_any (λ known. bytes_eq known name) names

-- Whether one of the members has a key that is not among the names.
abbrev pub has_other_member : List (List ℕ) → Members → Bool
has_other_member names no_members = false
has_other_member names (member name value ms) = not (is_among names name) || has_other_member names ms

-- Whether the object has a key that is not among the names.
abbrev pub has_other_key : List (List ℕ) → Option Members → Bool
has_other_key names None = false
has_other_key names (Some ms) = has_other_member names ms
