use Rattle.std.proofs.Common.{◌≡◌, ◌≤◌, ◌-◌, vec_len}
use Rattle.std.specs.Io.KnownBytes.{Consumes}
use Rattle.engine.proofs.input.read_input.Given as goal

-- the bytes so far are those that the reader gave
abbrev pub invariant-loop-bytes : goal.invariant-loop-bytes
invariant-loop-bytes g l = record {
  given : Consumes (g.R.Read.remaining l.initial.input.inner) (g.R.Read.remaining l.input.inner) l.bytes.items;
  within : vec_len l.bytes ≤ 67_108_865;
  room : vec_len l.buffer ≡ 65_536;
  same_failures : l.input.failures ≡ l.initial.input.failures;
}

abbrev pub decreases-loop-bytes : goal.decreases-loop-bytes
decreases-loop-bytes g l = 67_108_865 - vec_len l.bytes
