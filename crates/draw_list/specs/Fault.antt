-- The numbers and names of the errors of a draw list, and where an error is.
use Rattle.std.specs.Prelude.{ℕ, List, codes, Some, None}
use Rattle.draw_list.specs.declared.fault.ReadFault.{ReadFault}
use Rattle.draw_list.specs.declared.fault.ReadKind.{ReadKind}
use Rattle.draw_list.specs.declared.fault.ReadKind.TheVariants.{NotJson, UnknownKey, MissingKey, WrongKind, OutOfRange, BadIndex, TooMany, OutOfMemory, TwoLists, NotConvex}

-- The number of each kind of error in a draw list. It never changes its meaning.
abbrev pub kind_number : ReadKind → ℕ
kind_number NotJson = 1
kind_number UnknownKey = 2
kind_number MissingKey = 3
kind_number WrongKind = 4
kind_number OutOfRange = 5
kind_number BadIndex = 6
kind_number TooMany = 7
kind_number OutOfMemory = 8
kind_number TwoLists = 9
kind_number NotConvex = 10

-- The name of each kind of error in a draw list.
abbrev pub name_of : ReadKind → List ℕ
name_of NotJson = codes "NotJson"
name_of UnknownKey = codes "UnknownKey"
name_of MissingKey = codes "MissingKey"
name_of WrongKind = codes "WrongKind"
name_of OutOfRange = codes "OutOfRange"
name_of BadIndex = codes "BadIndex"
name_of TooMany = codes "TooMany"
name_of OutOfMemory = codes "OutOfMemory"
name_of TwoLists = codes "TwoLists"
name_of NotConvex = codes "NotConvex"

-- An error of this kind that is in no draw.
abbrev pub outside : ReadKind → ReadFault
outside kind = record { kind = kind; draw = None }

-- An error of this kind in the draw of this number.
abbrev pub fault_in_draw : ℕ → ReadKind → ReadFault
fault_in_draw number kind = record { kind = kind; draw = Some number }
