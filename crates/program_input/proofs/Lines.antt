-- A line that was written, or what of it could be.
use Rattle.std.proofs.Common.{refl, sym, subst, ℕ, ◌-◌, List, length, Option, Result, Ok, Err, arith}
use Rattle.std.proofs.Math.Seq.{take-length}
use Rattle.std.specs.Io.KnownBytes.{Appends}
use Rattle.picture_file.specs.declared.write_all.WriteFault.{WriteFault}
use Rattle.program_input.specs.Refusal.{WritesLine}
use Rattle.picture_file.specs.Writes.{WritesBytes}

pub writes_line : (line : List ℕ) (held held_after : Option (List ℕ)) (failed failed_after : ℕ) (result : Result ℕ WriteFault)
    → WritesBytes line 0 result held held_after failed failed_after → WritesLine line held held_after failed failed_after
writes_line line held held_after failed failed_after (Ok n) writes =
    record {
      count = length line;
      written = subst (λ (bytes : List ℕ). Appends held held_after bytes) (sym (take-length line)) writes.all;
      whole = λ _. refl;
    }
writes_line line held held_after failed failed_after (Err e) writes =
    record { count = e.written - 0; written = writes.beginning; whole = λ same. absurd (omega (arith, same, writes.failures)) }
