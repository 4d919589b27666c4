-- The command as clap sees it, and what its matches name.
use Rattle.std.specs.Prelude.{◌≡◌, ℕ, List, [], ◌∷◌, Option, Some, codes}
use Rattle.std.specs.Str.Parse.{IsNumeral, digits_value, without_leading_plus}
use Rattle.clap.specs.Words.{App, IsAmong, Rule, Text, fault_of, first_of, matches_of, new_app, new_rule, with_rule}
use Rattle.clap.specs.declared.error.kind.ErrorKind.{ErrorKind}
use Rattle.clap.specs.declared.error.kind.ErrorKind.TheVariants as kind
use Rattle.grid.specs.declared.pixels.TileSide.{TileSide}
use Rattle.grid.specs.declared.pixels.TileSide.TheVariants.{T8, T16, T32, T64}
use Rattle.program_input.specs.declared.line_fault.LineFault.{LineFault}
use Rattle.program_input.specs.declared.line_fault.LineFault.TheVariants as fault

-- An option `--name VALUE` with this default.
abbrev pub option_rule : Text → Text → Rule
option_rule name default = record (new_rule name) { long = Some name; defaults = default ∷ [] }

-- The command `trirast [--tile SIDE] [--workers NUMBER]`.
abbrev pub trirast_app : App
trirast_app = with_rule (with_rule (new_app (codes "trirast")) (option_rule (codes "tile") (codes "32"))) (option_rule (codes "workers") (codes "4"))

-- The value of an option in the matches that clap gives for the arguments, its default included.
abbrev pub matched : Text → List Text → Option Text
matched id arguments = first_of id (matches_of trirast_app arguments)

-- The text of a tile size, in decimal digits.
abbrev pub tile_text : TileSide → Text
tile_text T8 = codes "8"
tile_text T16 = codes "16"
tile_text T32 = codes "32"
tile_text T64 = codes "64"

-- The text is the number in decimal digits, perhaps behind a plus sign.
abbrev pub IsNumberText : Text → ℕ → Type 0
IsNumberText text n = IsNumeral 10 (without_leading_plus text) × (n ≡ digits_value 10 (without_leading_plus text))

-- What an error of clap means for the program: out of memory, help, or refused arguments.
abbrev pub line_fault : ErrorKind → LineFault
line_fault kind.OutOfMemory = fault.OutOfMemory
line_fault kind.DisplayHelp = fault.Help
line_fault _ = fault.Refused

-- The arguments ask for help: clap returns it for them.
abbrev pub AsksForHelp : List Text → Type 0
AsksForHelp arguments = IsAmong kind.DisplayHelp (fault_of trirast_app arguments)

-- The program's status for arguments that give no options.
abbrev pub status_of : LineFault → ℕ
status_of fault.Refused = 2
status_of fault.Help = 0
status_of fault.OutOfMemory = 1
