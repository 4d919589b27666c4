-- What a reader gave.
use Rattle.std.specs.Prelude.{◌≡◌, ℕ, List, ◌++◌, length, Option}
use Rattle.std.specs.Io.KnownBytes.{Consumes, IsAtEnd}
use Rattle.draw_list.specs.declared.fault.ReadFault.{ReadFault}
use Rattle.list_json.specs.Checks.{all_checks}
use Rattle.list_json.specs.Json.{json_of}
use Rattle.checks.specs.FirstFault.{IsFirstFault}

-- A reader with the bytes `left` gave these bytes, and then was at its end.
pub record GivesAll (left left_after : Option (List ℕ)) (bytes : List ℕ) : Type 0 where
  pub given : Consumes left left_after bytes
  pub ended : IsAtEnd left_after

-- What the reader gave stands behind the old bytes.
pub record TakesOver (left left_after : Option (List ℕ)) (old new : List ℕ) : Type 0 where
  pub more : List ℕ
  pub given : Consumes left left_after more
  pub behind : new ≡ old ++ more

-- The input gave exactly `count` bytes.
pub record Gives (left left_after : Option (List ℕ)) (count : ℕ) : Type 0 where
  pub bytes : List ℕ
  pub given : Consumes left left_after bytes
  pub many : length bytes ≡ count

-- The input's bytes, up to its end, have this first error.
pub record HasFault (left left_after : Option (List ℕ)) (fault : ReadFault) : Type 0 where
  pub bytes : List ℕ
  pub input : GivesAll left left_after bytes
  pub first : IsFirstFault (all_checks (json_of bytes)) fault
