-- Whether a result of the reader is right.
use Rattle.std.specs.Prelude.{◌≡◌, ◌≢◌, List, Some, None, Result, MatchResult}
use Rattle.draw_list.specs.declared.fault.ReadKind.{ReadKind}
use Rattle.draw_list.specs.declared.fault.ReadFault.{ReadFault}
use Rattle.draw_list.specs.declared.fault.ReadKind.TheVariants.{OutOfMemory}
use Rattle.checks.specs.FirstFault.{Check, first_fault}

-- The result is right: no check fails, or the first that fails has this kind.
abbrev pub Answers : {X : Type 0} → List (Check ReadKind) → (X → Type 0) → Result X ReadKind → Type 0
Answers checks P answer = MatchResult answer (λ x. (first_fault checks ≡ None) × P x) (λ kind. first_fault checks ≡ Some kind)

-- The result is right, or out of memory: no check fails, or the first that fails has this kind.
abbrev pub Reads : {X : Type 0} → List (Check ReadKind) → (X → Type 0) → Result X ReadKind → Type 0
Reads checks P answer = MatchResult answer (λ x. (first_fault checks ≡ None) × P x) (λ kind. kind ≢ OutOfMemory → first_fault checks ≡ Some kind)

-- The result is right, or out of memory: no check fails, or the first that fails reports this kind and this draw.
abbrev pub ReadsAll : {X : Type 0} → List (Check ReadFault) → (X → Type 0) → Result X ReadFault → Type 0
ReadsAll checks P answer = MatchResult answer (λ x. (first_fault checks ≡ None) × P x) (λ fault. fault.kind ≢ OutOfMemory → first_fault checks ≡ Some fault)
