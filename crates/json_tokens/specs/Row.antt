-- Rows of integers.
use Rattle.std.specs.Prelude.{◌≡◌, ℕ, ℤ, ◌+◌, ◌≤◌, List, [], ◌∷◌, length, map, Some}
use Rattle.std.specs.Simd.Lanes.{chunk, mask_l}
use Rattle.json.specs.Token.{Token, begin_array}
use Rattle.json.specs.Json.{after_end_array}
use Rattle.json_tokens.specs.Eight.{offset, is_other}
use Rattle.json_tokens.specs.Lexed.{TookInteger}

-- The mask says which bytes from an index on are no digits, the first lowest, and eight more bytes follow them.
pub record IsAhead (text : List ℕ) (at mask : ℕ) : Type 0 where
  pub count : ℕ
  pub most : count ≤ 64
  pub within : at + count + 8 ≤ length text
  pub marks : mask ≡ mask_l (map is_other (map offset (chunk at count text)))

-- The tokens `old` begin with these integers, and `new` is what follows them.
abbrev pub TookIntegers : List Token → List ℤ → List Token → Type 0
TookIntegers old [] new = old ≡ new
TookIntegers old (z ∷ zs) new = (next : List Token) × TookInteger old z next × TookIntegers next zs new

-- The tokens `old` begin with an array of these integers, and `new` is what follows it.
pub record TookRow (old : List Token) (zs : List ℤ) (new : List Token) : Type 0 where
  pub first : List Token
  pub last : List Token
  pub opens : old ≡ begin_array ∷ first
  pub integers : TookIntegers first zs last
  pub closes : after_end_array last ≡ Some new
