use Rattle.std.proofs.Common.{◌≡◌}
use Rattle.worked_values.proofs.values.stepped.Given as goal

abbrev pub invariant-loop : goal.invariant-loop
invariant-loop l = (l.row.a ≡ l.t.a) × (l.row.b ≡ l.t.b) × (l.row.c ≡ l.t.c) × (l.row.p ≡ l.p)
