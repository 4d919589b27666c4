-- The checks of a list that the caller gives as a text.
use Rattle.std.specs.Prelude.{◌≡◌, ◌≤◌, ℕ, List, length}
use Rattle.checks.specs.Checking.{Checks, check, allocate}
use Rattle.checks.specs.FirstFault.{IsFirstFault}
use Rattle.draw_list.specs.Scene.{Scene}
use Rattle.draw_list.specs.declared.fault.ReadFault.{ReadFault}
use Rattle.list_json.specs.Checks.{all_checks}
use Rattle.list_json.specs.Denotes.{Denotes}
use Rattle.list_json.specs.Json.{json_of}
use Rattle.c_abi.specs.declared.fault.Fault.{Fault}
use Rattle.c_abi.specs.declared.status.Status.{Status}
use Rattle.c_abi.specs.declared.status.Status.TheVariants.{BadList, InputTooLong, OutOfMemory}
use Rattle.c_abi.specs.Errors.{list_fault}

-- The checks of a list that the caller gives: that there is one, for which memory is allocated, and then those of the list.
abbrev pub list_checks : (Scene → Type 0) → Checks Status → Checks Status
list_checks Means later = allocate OutOfMemory (check ((list : Scene) × Means list) BadList later)

-- The checks of a list that the caller gives as bytes: their number, and then the list.
abbrev pub text_checks : List ℕ → Checks Status → Checks Status
text_checks bytes later = check (length bytes ≤ 67_108_864) InputTooLong (list_checks (Denotes bytes) later)

-- What the first error is of a list that the caller gives as bytes.
abbrev pub IsFirstOfText : List ℕ → Fault → Type 0
IsFirstOfText bytes fault = (first : ReadFault) × IsFirstFault (all_checks (json_of bytes)) first × (fault ≡ list_fault first)
