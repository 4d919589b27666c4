use Rattle.std.proofs.Common.{length}
use Rattle.history.specs.History.{IsBehindUncovered}
use Rattle.list_history.proofs.walk.pass_uncovered.Given as goal

abbrev pub invariant-loop-history : goal.invariant-loop-history
invariant-loop-history l = IsBehindUncovered l.fn.history l.history

abbrev pub decreases-loop-history : goal.decreases-loop-history
decreases-loop-history l = length l.history.left
