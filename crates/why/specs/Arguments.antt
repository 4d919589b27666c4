-- What the arguments ask for, as clap sees them.
use Rattle.std.specs.Prelude.{◌≡◌, ℕ, List, ◌++◌, Bool, true, false, Option, Some, None, codes}
use Rattle.clap.specs.Words.{App, IsAmong, Rule, Text, fault_of, first_of, matches_of, new_app, new_rule, one_of, with_rule}
use Rattle.clap.specs.declared.builder.action.ArgAction.{ArgAction}
use Rattle.clap.specs.declared.builder.action.ArgAction.TheVariants.{Set, SetTrue}
use Rattle.clap.specs.declared.error.kind.ErrorKind.TheVariants as kind
use Rattle.program_input.specs.Args.{IsNumberText}
use Rattle.why.specs.declared.arguments.Asked.{Asked}
use Rattle.why.specs.declared.arguments.AskedTriangle.{AskedTriangle}
use Rattle.why.specs.declared.arguments.Form.{Form}
use Rattle.why.specs.declared.arguments.Form.TheVariants.{Table, Json}
use Rattle.why.specs.declared.arguments.Question.{Question}
use Rattle.why.specs.declared.arguments.Question.TheVariants.{Pixel as OfPixel, Triangle as OfTriangle}

-- An argument without a name.
abbrev pub plain_rule : Text → Rule
plain_rule name = record (new_rule name) { action = Some Set }

-- An option `--name`.
abbrev pub named_rule : Text → ArgAction → Rule
named_rule name action = record (new_rule name) { long = Some name; action = Some action }

-- The command `trirast_why [PIXEL] [--sample NUMBER] [--triangle PLACE] [--all] [--json]`.
abbrev pub why_app : App
why_app =
    with_rule (with_rule (with_rule (with_rule (with_rule (new_app (codes "trirast_why")) (plain_rule (codes "pixel"))) (named_rule (codes "sample") Set))
    (named_rule (codes "triangle") Set)) (named_rule (codes "all") SetTrue)) (named_rule (codes "json") SetTrue)

-- The value of an argument in the matches that clap gives for the arguments.
abbrev pub named : Text → List Text → Option Text
named id arguments = first_of id (matches_of why_app arguments)

-- Whether a flag is set in these matches: its text is `true` or `false`.
abbrev pub flag_text : Text → List Text → Option Text
flag_text id arguments = one_of id (matches_of why_app arguments)

-- The flag is this one.
pub record IsFlag (text : Option Text) (set : Bool) : Type 0 where
  pub on : text ≡ Some (codes "true") → set ≡ true
  pub off : text ≡ Some (codes "false") → set ≡ false

-- The reports are written in this form: as JSON with the flag, else as a table.
pub record IsForm (text : Option Text) (form : Form) : Type 0 where
  pub on : text ≡ Some (codes "true") → form ≡ Json
  pub off : text ≡ Some (codes "false") → form ≡ Table

-- The text is two numbers with a comma between them.
pub record AreTwoNumbers (text : Text) (x y : ℕ) : Type 0 where
  pub front : Text
  pub back : Text
  pub whole : text ≡ front ++ codes "," ++ back
  pub first : IsNumberText front x
  pub second : IsNumberText back y

-- The sample is the one of this number, or none if none is named.
abbrev pub IsSampleNamed : Option Text → Option ℕ → Type 0
IsSampleNamed None None = Unit {0}
IsSampleNamed (Some text) (Some number) = IsNumberText text number
IsSampleNamed _ _ = ⊥

-- The arguments ask for this pixel, and for no triangle.
pub record AsksForPixel (arguments : List Text) (asked : Asked) : Type 0 where
  pub text : Text
  pub pixel : named (codes "pixel") arguments ≡ Some text
  pub alone : named (codes "triangle") arguments ≡ None
  pub place : AreTwoNumbers text asked.x asked.y
  pub sample : IsSampleNamed (named (codes "sample") arguments) asked.sample
  pub all : IsFlag (flag_text (codes "all") arguments) asked.all
  pub form : IsForm (flag_text (codes "json") arguments) asked.form

-- The arguments ask for this triangle, and neither for a pixel or a sample nor for all triangles.
pub record AsksForTriangle (arguments : List Text) (asked : AskedTriangle) : Type 0 where
  pub text : Text
  pub triangle : named (codes "triangle") arguments ≡ Some text
  pub alone : (named (codes "pixel") arguments ≡ None) × (named (codes "sample") arguments ≡ None)
  pub all : IsFlag (flag_text (codes "all") arguments) false
  pub place : AreTwoNumbers text asked.place.draw asked.place.triangle
  pub form : IsForm (flag_text (codes "json") arguments) asked.form

-- The arguments are those of a command line that clap takes, and ask this question.
abbrev pub Asks : List Text → Question → Type 0
Asks arguments (OfPixel asked) = AsksForPixel arguments asked
Asks arguments (OfTriangle asked) = AsksForTriangle arguments asked

-- The arguments ask for help: clap returns it for them.
abbrev pub AsksForUsage : List Text → Type 0
AsksForUsage arguments = IsAmong kind.DisplayHelp (fault_of why_app arguments)
