use Rattle.std.proofs.Common.{length}
use Rattle.list_history.proofs.Passed.{IsOfSame}
use Rattle.list_history.proofs.walk.ListHistory.end.Given as goal

abbrev pub invariant-loop : goal.invariant-loop
invariant-loop l = IsOfSame l.initial.self l.self

abbrev pub decreases-loop : goal.decreases-loop
decreases-loop l = length l.self.history.left
