-- Which value serde_json defines for the bytes, from what its reader ensures.
use Rattle.std.proofs.Common.{◌≡◌, List, ℕ, Bool, true, false, Option, Some, None, IsUtf8, refl, ap, ◌∙◌}
use Rattle.std.specs.Bool.{if◌then◌else◌}
use Rattle.std.specs.Str.{is_utf8}
use Rattle.std.proofs.lemmas.Str.{IsUtf8-from_is_utf8, is_utf8-from_IsUtf8}
use Rattle.serde_json.specs.Data.{Data}
use Rattle.serde_json.specs.Read.{read}
use Rattle.list_json.specs.Json.{json_of}

pub json_value : (bytes : List ℕ) (d : Data) → IsUtf8 bytes → read bytes ≡ Some d → json_of bytes ≡ Some d
json_value bytes d utf8 is = ap (λ b. if b then read bytes else None) (is_utf8-from_IsUtf8 bytes utf8) ∙ is

chosen : (b : Bool) (value : Option Data) → (b ≡ true → value ≡ None) → (if b then value else None) ≡ None
chosen true value none = none refl
chosen false value none = refl

pub no_json : (bytes : List ℕ) → (IsUtf8 bytes → read bytes ≡ None) → json_of bytes ≡ None
no_json bytes none = chosen (is_utf8 bytes) (read bytes) (λ e. none (IsUtf8-from_is_utf8 bytes e))
