use Rattle.std.proofs.Common.{◌≡◌, ◌≤◌, ◌-◌, length, drop}
use Rattle.json.specs.Lex.{between, lex}
use Rattle.json_tokens.proofs.blank.skip_some_blanks.Given as goal

abbrev pub invariant-blanks : goal.invariant-blanks
invariant-blanks l = record {
  same : lex between (drop l.at l.bytes) ≡ lex between (drop l.from l.bytes);
  within : l.at ≤ length l.bytes;
}

abbrev pub decreases-blanks : goal.decreases-blanks
decreases-blanks l = length l.bytes - l.at
