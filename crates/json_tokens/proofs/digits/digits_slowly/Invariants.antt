use Rattle.std.proofs.Common.{◌≡◌, ◌≤◌, ◌<◌, ◌-◌, ◌^◌, length, take, drop}
use Rattle.std.specs.Str.Parse.{digits_value, AllDigits}
use Rattle.json_tokens.proofs.digits.digits_slowly.Given as goal

abbrev pub invariant-digits : goal.invariant-digits
invariant-digits l = record {
  after : l.from ≤ l.at;
  within : l.at ≤ length l.bytes;
  digits : AllDigits 10 (take (l.at - l.from) (drop l.from l.bytes));
  value : digits_value 10 (take (l.at - l.from) (drop l.from l.bytes)) ≡ l.value;
  below : l.value < 10 ^ 18;
}

abbrev pub decreases-digits : goal.decreases-digits
decreases-digits l = length l.bytes - l.at
