-- The checks of a list that the caller gives.
use Rattle.std.proofs.Common.{◌≡◌, ◌≢◌, refl, subst, inl, inr}
use Rattle.checks.specs.Checking.{Checks}
use Rattle.draw_list.specs.Scene.{Scene}
use Rattle.draw_list.specs.declared.fault.ReadFault.{ReadFault}
use Rattle.draw_list.specs.declared.fault.ReadKind.TheVariants.{OutOfMemory as NoMemory}
use Rattle.c_abi.specs.declared.call_error.CallError.{CallError}
use Rattle.c_abi.specs.declared.fault.Fault.{Fault}
use Rattle.c_abi.specs.declared.status.Status.{Status}
use Rattle.c_abi.specs.Errors.{list_fault, IsOfFault}
use Rattle.c_abi.specs.Calls.{IsFirstError}
use Rattle.trirast_c.specs.Texts.{list_checks}

-- what holds of the list holds of each that is meant
pub every : (Means P : Scene → Type 0) (found : Scene) → ((l : Scene) → Means l → found ≡ l) → P found → (l : Scene) → Means l → P l
every Means P found only p l means = subst P (only l means) p

-- the error of what is no list
pub list_fails : (Means : Scene → Type 0) (IsFirst : Fault → Type 0) (later : Checks Status) (fault : ReadFault) (e : CallError) → IsOfFault fault e
    → (fault.kind ≢ NoMemory → IsFirst (list_fault fault)) → (fault.kind ≢ NoMemory → (l : Scene) → Means l → ⊥) → IsFirstError (list_checks Means later) IsFirst e
list_fails Means IsFirst later fault e (inl memory) first none = rw memory.1 (record { first = inl refl; fault = (λ h. cc, λ h. cc) })
list_fails Means IsFirst later fault e (inr other) first none = rw other.1 (record { first = inr (inl ((λ list. none other.0 list.0 list.1), refl)); fault = (inl refl, first other.0) })
