-- Why a call failed.
use Rattle.std.specs.Prelude.{◌≡◌, ◌≢◌, ◌⊎◌, ℕ, Option, Some, None}
use Rattle.draw_list.specs.Fault.{kind_number as list_number_of}
use Rattle.draw_list.specs.declared.fault.ReadFault.{ReadFault}
use Rattle.draw_list.specs.declared.fault.ReadKind.TheVariants.{OutOfMemory as NoMemory}
use Rattle.c_abi.specs.declared.call_error.CallError.{CallError}
use Rattle.c_abi.specs.declared.error.Error.{Error}
use Rattle.c_abi.specs.declared.fault.Fault.{Fault}
use Rattle.c_abi.specs.declared.status.Status.{Status}
use Rattle.c_abi.specs.declared.status.Status.TheVariants.{BadList, BadBatch, OutOfMemory}
use Rattle.c_abi.specs.Statuses.{status_number}

-- What is wrong with a list, by its numbers. No element is named.
abbrev pub list_fault : ReadFault → Fault
list_fault fault = record { cause = list_number_of fault.kind; draw = fault.draw; element = None; value = None }

-- An error of which the status says all.
abbrev pub of_status : Status → CallError
of_status status = record { status = status; fault = None }

-- The error of what is no draw list.
abbrev pub of_list : ReadFault → CallError
of_list fault = record { status = BadList; fault = Some (list_fault fault) }

-- The error of a batch that cannot be drawn.
abbrev pub of_batch : Fault → CallError
of_batch fault = record { status = BadBatch; fault = Some fault }

-- The error of a list that was not read. Running out of memory is a status of its own.
abbrev pub IsOfFault : ReadFault → CallError → Type 0
IsOfFault fault error = ((fault.kind ≡ NoMemory) × (error ≡ of_status OutOfMemory)) ⊎ ((fault.kind ≢ NoMemory) × (error ≡ of_list fault))

-- An index as the caller gets it: the greatest number of 64 bits stands for none.
abbrev pub index_or_none : Option ℕ → ℕ
index_or_none None = 18446744073709551615
index_or_none (Some index) = index

-- What the caller gets if the status says all; with the status 0 there is no error.
abbrev pub alone : ℕ → Error
alone status = record { status = status; cause = 0; draw = index_or_none None; element = index_or_none None; value = index_or_none None }

-- What the caller gets if a call has this status, and this is wrong with its list or batch.
abbrev pub reported : ℕ → Option Fault → Error
reported status None = alone status
reported status (Some fault) = record {
  status = status;
  cause = fault.cause;
  draw = index_or_none fault.draw;
  element = index_or_none fault.element;
  value = index_or_none fault.value;
}

-- What the caller gets of an error.
abbrev pub error_of : CallError → Error
error_of e = reported (status_number e.status) e.fault
