-- What a call did that writes bytes of a file.
use Rattle.std.specs.Prelude.{◌≡◌, ℕ, ◌+◌, ◌-◌, ◌≤◌, List, length, take, Option, Result, OnOk, IfErr, MatchResult}
use Rattle.std.specs.Io.KnownBytes.{Appends}
use Rattle.picture_file.specs.declared.write_all.WriteFault.{WriteFault}

-- What was written is all of these bytes, or a beginning of them if the call failed. `before` bytes of the file were written earlier,
-- and the error says how many were written in all. The writer failed once if the call did, else never.
pub record WritesBytes {Done : Type 0} (bytes : List ℕ) (before : ℕ) (result : Result Done WriteFault) (held held_after : Option (List ℕ)) (failed failed_after : ℕ) : Type 0 where
  pub all : OnOk result (Appends held held_after bytes)
  pub beginning : IfErr result (λ e. Appends held held_after (take (e.written - before) bytes))
  pub written : IfErr result (λ e. (before ≤ e.written) × (e.written ≤ before + length bytes))
  pub failures : MatchResult result (λ _. failed_after ≡ failed) (λ _. failed_after ≡ failed + 1)
