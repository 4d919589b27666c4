-- What the program does with a draw list and a question.
use Rattle.std.specs.Prelude.{◌≡◌, ◌↔◌, ℕ, ◌<◌, ◌≤◌, List, length, take, Option, Result, OnOk, IfErr, codes}
use Rattle.std.specs.Io.KnownBytes.{Keeps, Appends}
use Rattle.list_json.specs.Denotes.{Denotes}
use Rattle.draw_list.specs.Scene.{Scene}
use Rattle.list_history.specs.declared.sample_counts.SampleCounts.{SampleCounts}
use Rattle.engine.specs.declared.fault.Fault.{Fault}
use Rattle.engine.specs.declared.fault.Fault.TheVariants.{List as BadList, Pool, InputFailed, InputTooLong, WriteFailed, OutOfMemory}
use Rattle.engine.specs.Input.{GivesAll, Gives, HasFault}
use Rattle.why.specs.declared.arguments.Asked.{Asked}
use Rattle.why.specs.declared.arguments.AskedTriangle.{AskedTriangle}
use Rattle.clap.specs.Words.{Text}
use Rattle.why.specs.Arguments.{Asks}
use Rattle.why.specs.declared.arguments.Question.{Question}
use Rattle.why.specs.declared.arguments.Question.TheVariants.{Pixel as OfPixel, Triangle as OfTriangle}
use Rattle.why.specs.declared.program.Failure.{Failure}
use Rattle.why.specs.declared.program.Failure.TheVariants.{NotThere, Run}
use Rattle.why.specs.declared.text.Pixel.{Pixel}
use Rattle.why.specs.declared.text.ReportFault.{ReportFault}
use Rattle.why.specs.declared.text.ReportFault.TheVariants as report
use Rattle.why.specs.Report.{HasAskedSample, HasAskedTriangle, IsShownAt, AreCountsOfAsked}
use Rattle.why.specs.Text.{counts_text, pixel_text}

-- The line that the program writes if its arguments ask for help.
abbrev pub why_usage_line : List ℕ
why_usage_line = codes "usage: trirast_why (X,Y [--sample S] [--all] | --triangle DRAW,NUMBER) [--json] < list.json\n"

-- The text reports this pixel, which the list has: with what the picture shows there, and some histories.
pub record ReportsPixel (l : Scene) (asked : Asked) (text : List ℕ) : Type 0 where
  pub there : HasAskedSample l asked
  pub pixel : Pixel
  pub shown : IsShownAt l asked.x asked.y pixel
  pub histories : List ℕ
  pub whole : text ≡ pixel_text l.output asked pixel histories

-- The text reports this triangle, which the list has: the numbers of its samples.
pub record ReportsTriangle (l : Scene) (asked : AskedTriangle) (text : List ℕ) : Type 0 where
  pub counts : SampleCounts
  pub counted : AreCountsOfAsked l asked counts
  pub whole : text ≡ counts_text asked counts

-- The text is the report that is asked for.
abbrev pub IsAskedReport : Scene → Question → List ℕ → Type 0
IsAskedReport l (OfPixel asked) = ReportsPixel l asked
IsAskedReport l (OfTriangle asked) = ReportsTriangle l asked

-- The picture has no such pixel, the pixel no such sample, or the list no such triangle.
abbrev pub Lacks : Scene → Question → Type 0
Lacks l (OfPixel asked) = ¬ HasAskedSample l asked
Lacks l (OfTriangle asked) = ¬ HasAskedTriangle l asked

-- The input's bytes, up to its end, denote a draw list of which `Holds` holds.
pub record GivesList (Holds : Scene → Type 0) (left left_after : Option (List ℕ)) : Type 0 where
  pub bytes : List ℕ
  pub list : Scene
  pub input : GivesAll left left_after bytes
  pub denoted : Denotes bytes list
  pub holds : Holds list

-- The input gives a draw list, and this text is the report that is asked for.
abbrev pub GivesReport : Question → List ℕ → Option (List ℕ) → Option (List ℕ) → Type 0
GivesReport question text = GivesList (λ l. IsAskedReport l question text)

-- What each error says of the input before anything is written.
abbrev pub ExplainsUnread : Fault → Option (List ℕ) → Option (List ℕ) → Type 0
ExplainsUnread (BadList fault) left left_after = HasFault left left_after fault
ExplainsUnread (Pool fault) left left_after = ⊥
ExplainsUnread InputFailed left left_after = Unit {0}
ExplainsUnread InputTooLong left left_after = Gives left left_after 67_108_865
ExplainsUnread (WriteFailed count) left left_after = ⊥
ExplainsUnread OutOfMemory left left_after = Unit {0}

-- Why there is no text of a report: what is asked for is not there, or an error.
abbrev pub ExplainsFailure : Question → Failure → Option (List ℕ) → Option (List ℕ) → Type 0
ExplainsFailure question NotThere left left_after = GivesList (λ l. Lacks l question) left left_after
ExplainsFailure question (Run fault) left left_after = ExplainsUnread fault left left_after

-- What an error of a report means for the program.
abbrev pub failure_of_report : ReportFault → Failure
failure_of_report report.NoSuchSample = NotThere
failure_of_report report.NoSuchTriangle = NotThere
failure_of_report report.OutOfMemory = Run OutOfMemory

-- The input gives a draw list, which lacks what the arguments ask for.
pub record LacksAnswer (arguments : List Text) (left left_after : Option (List ℕ)) : Type 0 where
  pub question : Question
  pub asked : Asks arguments question
  pub given : GivesList (λ l. Lacks l question) left left_after

-- The error is that of a writer which failed after a beginning of the text.
pub record CutsText (text : List ℕ) (fault : Fault) (held held_after : Option (List ℕ)) : Type 0 where
  pub count : ℕ
  pub is : fault ≡ WriteFailed count
  pub within : count ≤ length text
  pub written : Appends held held_after (take count text)

-- The text was written whole, or the error says how many bytes of it were. It is an error if and only if a write failed in the call.
pub record WritesText {Done : Type 0} (text : List ℕ) (result : Result Done Fault) (held held_after : Option (List ℕ)) (failed failed_after : ℕ) : Type 0 where
  pub all : OnOk result (Appends held held_after text)
  pub kept : OnOk result (failed_after ≡ failed)
  pub cut : IfErr result (λ e. CutsText text e held held_after × (failed < failed_after))

-- The report that the arguments ask for was written whole.
pub record WritesReport (arguments : List Text) (left left_after held held_after : Option (List ℕ)) : Type 0 where
  pub question : Question
  pub asked : Asks arguments question
  pub text : List ℕ
  pub given : GivesReport question text left left_after
  pub written : Appends held held_after text

-- The first `count` bytes of the report that the arguments ask for were written.
pub record WritesReportBeginning (arguments : List Text) (count : ℕ) (left left_after held held_after : Option (List ℕ)) : Type 0 where
  pub question : Question
  pub asked : Asks arguments question
  pub text : List ℕ
  pub given : GivesReport question text left left_after
  pub within : count ≤ length text
  pub written : Appends held held_after (take count text)

-- What each error says of the input's and the output's bytes.
abbrev pub ExplainsReportFault : List Text → Fault → Option (List ℕ) → Option (List ℕ) → Option (List ℕ) → Option (List ℕ) → Type 0
ExplainsReportFault arguments (WriteFailed count) left left_after held held_after = WritesReportBeginning arguments count left left_after held held_after
ExplainsReportFault arguments fault left left_after held held_after = ExplainsUnread fault left left_after × Keeps held held_after

-- There is an error that explains what the input gave and what was written. It is a failed input if and only if a read failed, and a
-- failed output if and only if a write did.
pub record ReportEndsByFault (arguments : List Text) (left left_after held held_after : Option (List ℕ)) (ReadHasFailed WriteHasFailed : Type 0) : Type 0 where
  pub fault : Fault
  pub explained : ExplainsReportFault arguments fault left left_after held held_after
  pub input_failed : (fault ≡ InputFailed) ↔ ReadHasFailed
  pub write_failed : ((count : ℕ) × (fault ≡ WriteFailed count)) ↔ WriteHasFailed
