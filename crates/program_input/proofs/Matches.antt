-- What clap's matches and errors say of a command that is known.
use Rattle.std.proofs.Common.{◌≡◌, ◌⊎◌, List, Option, [], true, subst, refl, ap, sym, inl, inr, ◌∙◌}
use Rattle.clap.specs.Words.{App, Text, HasMatchesOf, IsAmong, fault_of, first_of, first_value, found_of, is_simple, matches_of, one_of, one_text}
use Rattle.clap.proofs.WalkLemmas.{first_value-rows, one_text-rows}
use Rattle.clap.specs.declared.error.kind.ErrorKind.{ErrorKind}
use Rattle.clap.specs.declared.error.kind.ErrorKind.TheVariants as kind
use Rattle.clap.specs.declared.parser.matches.ArgMatches.{ArgMatches}
use Rattle.program_input.specs.declared.line_fault.LineFault.{LineFault}
use Rattle.program_input.specs.declared.line_fault.LineFault.TheVariants as fault
use Rattle.program_input.specs.Args.{line_fault}

help_only : (k : ErrorKind) → line_fault k ≡ fault.Help → k ≡ kind.DisplayHelp
help_only kind.DisplayHelp h = refl
help_only _ h = absurd (cc)

-- an error that means help is clap's
pub asked_for_help : (app known : App) (arguments : List Text) (k e : ErrorKind) (f : LineFault) → app ≡ known → f ≡ line_fault k → k ≡ e → f ≡ fault.Help
    → (e ≡ kind.OutOfMemory) ⊎ IsAmong e (fault_of app arguments) → IsAmong kind.DisplayHelp (fault_of known arguments)
asked_for_help app known arguments k e f is reported same help has =
    let is_help : k ≡ kind.DisplayHelp = help_only k (sym reported ∙ help) in
    let AmongFaults : ErrorKind → Type 0 = λ x. IsAmong x (fault_of app arguments) in
    let HasHelp : App → Type 0 = λ a. IsAmong kind.DisplayHelp (fault_of a arguments) in
    elim has [
      | inl memory ↦ absurd (cc)
      | inr among ↦ subst HasHelp is (subst AmongFaults (sym same ∙ is_help) among)
    ]

pub no_fault : (app known : App) (arguments : List Text) → app ≡ known → fault_of app arguments ≡ [] → fault_of known arguments ≡ []
no_fault app known arguments is none = ap (λ a. fault_of a arguments) (sym is) ∙ none

-- the value of an argument, and that of a flag
pub named : (app known : App) (arguments : List Text) (m : ArgMatches) (id : Text) → app ≡ known → is_simple known ≡ true → HasMatchesOf app arguments m → first_value (found_of m) id ≡ first_of id (matches_of known arguments)
named app known arguments m id is simple has =
    let rows = (has (ap is_simple is ∙ simple)).0 in
    first_value-rows (found_of m) id ∙ (ap (first_of id) rows ∙ ap (λ a. first_of id (matches_of a arguments)) is)

pub flagged : (app known : App) (arguments : List Text) (m : ArgMatches) (id : Text) → app ≡ known → is_simple known ≡ true → HasMatchesOf app arguments m → one_text (found_of m) id ≡ one_of id (matches_of known arguments)
flagged app known arguments m id is simple has =
    let rows = (has (ap is_simple is ∙ simple)).0 in
    one_text-rows (found_of m) id ∙ (ap (one_of id) rows ∙ ap (λ a. one_of id (matches_of a arguments)) is)
