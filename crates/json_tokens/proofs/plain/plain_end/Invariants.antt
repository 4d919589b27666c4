use Rattle.std.proofs.Common.{◌≤◌, ◌-◌, length, take, drop}
use Rattle.json_tokens.specs.Lexed.{ArePlain}
use Rattle.json_tokens.proofs.plain.plain_end.Given as goal

abbrev pub invariant-plain : goal.invariant-plain
invariant-plain l = record {
  after : l.from ≤ l.at;
  within : l.at ≤ length l.bytes;
  plain : ArePlain (take (l.at - l.from) (drop l.from l.bytes));
}

abbrev pub decreases-plain : goal.decreases-plain
decreases-plain l = length l.bytes - l.at
