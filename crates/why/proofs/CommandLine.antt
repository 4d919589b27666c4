-- The command that the arguments are read by, and what its matches say of a flag.
use Rattle.std.proofs.Common.{◌≡◌, ◌∙◌, refl, Bool, if◌then◌else◌, true, false, Option, Some, None, is_some, not, ap, ap₂, codes}
use Rattle.clap.specs.Words.{App, AddsArg, Rule, app_of, rule_of, with_rule, Text}
use Rattle.clap.specs.declared.builder.arg.Arg.{Arg}
use Rattle.clap.specs.declared.builder.command.Command.{Command}
use Rattle.why.specs.declared.arguments.Form.{Form}
use Rattle.why.specs.declared.arguments.Form.TheVariants.{Table, Json}
use Rattle.why.specs.Arguments.{IsFlag, IsForm}

-- one more argument
pub adds : (old new : Command) (a : Arg) (app : App) (rule : Rule) → AddsArg old a new → app_of old ≡ app → rule_of a ≡ rule → a.global ≡ false → app_of new ≡ with_rule app rule
adds old new a app rule h is rules local = h.shape local ∙ ap₂ with_rule is rules

pub flag_is : (found text : Option Text) (set : Bool) → found ≡ text → (found ≡ Some (codes "true") → set ≡ true) → (found ≡ Some (codes "false") → set ≡ false) → IsFlag text set
flag_is found text set same on off = record { on = λ t. on (same ∙ t); off = λ t. off (same ∙ t) }

pub form_is : (text : Option Text) (json : Bool) (form : Form) → IsFlag text json → form ≡ (if json then Json else Table) → IsForm text form
form_is text json form h is = record { on = λ t. is ∙ ap (λ b. if b then Json else Table) (h.on t); off = λ t. is ∙ ap (λ b. if b then Json else Table) (h.off t) }

pub is_absent : {X : Type 0} (found : Option X) (absent : Bool) → is_some found ≡ not absent → absent ≡ true → found ≡ None
is_absent None absent some is = refl
is_absent (Some x) absent some is = absurd (cc)
