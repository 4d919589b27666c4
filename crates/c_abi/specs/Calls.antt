-- The checks of calls, and what the caller gets of the first that fails.
use Rattle.std.specs.Prelude.{◌≡◌, ◌≢◌, ◌⊎◌, ℕ, ⊤, Option, Some, None, Result, Ok, Err, MatchResult}
use Rattle.checks.specs.Checking.{Checks, Pass, FirstIs}
use Rattle.c_abi.specs.declared.fault.Fault.{Fault}
use Rattle.c_abi.specs.declared.call_error.CallError.{CallError}
use Rattle.c_abi.specs.declared.error.Error.{Error}
use Rattle.c_abi.specs.declared.status.Status.{Status}
use Rattle.c_abi.specs.declared.status.Status.TheVariants.{BadList, BadBatch}
use Rattle.c_abi.specs.Errors.{alone, error_of}
use Rattle.c_abi.specs.Statuses.{status_number}

-- The error names what is wrong with the list or the batch if the status is that of one, and then its first error.
abbrev pub IsFaultOf : (Fault → Type 0) → Status → Option Fault → Type 0
IsFaultOf IsFirst status None = (status ≢ BadList) × (status ≢ BadBatch)
IsFaultOf IsFirst status (Some fault) = ((status ≡ BadList) ⊎ (status ≡ BadBatch)) × IsFirst fault

-- The error is that of the first check that fails. `IsFirst` says which is the first error of the list or batch that the caller gave.
pub record IsFirstError (checks : Checks Status) (IsFirst : Fault → Type 0) (e : CallError) : Type 0 where
  pub first : FirstIs checks e.status
  pub fault : IsFaultOf IsFirst e.status e.fault

-- The result is right: each check holds, and so does P of what was found, or the error is that of the first check that fails.
abbrev pub IsCall : {X : Type 0} → Checks Status → (Fault → Type 0) → (X → Type 0) → Result X CallError → Type 0
IsCall checks IsFirst P result = MatchResult result (λ x. Pass checks × P x) (IsFirstError checks IsFirst)

-- The status and the error that the caller gets of a call that ended so.
abbrev pub IsReported : Result ⊤ CallError → ℕ → Error → Type 0
IsReported (Ok done) status error = (status ≡ 0) × (error ≡ alone 0)
IsReported (Err e) status error = (status ≡ status_number e.status) × (error ≡ error_of e)

-- The status and the error are those of the first check that fails, and none if each holds. So the checks say exactly when each
-- status comes.
abbrev pub IsReport : Checks Status → (Fault → Type 0) → ℕ → Error → Type 0
IsReport checks IsFirst status error =
    (Pass checks × (status ≡ 0) × (error ≡ alone 0))
    ⊎ ((e : CallError) × IsFirstError checks IsFirst e × (status ≡ status_number e.status) × (error ≡ error_of e))

-- The status is that of the first check that fails, and none if each holds: for a call that has no error beside its status.
abbrev pub IsStatus : Checks Status → ℕ → Type 0
IsStatus checks status = (Pass checks × (status ≡ 0)) ⊎ ((failed : Status) × FirstIs checks failed × (status ≡ status_number failed))
