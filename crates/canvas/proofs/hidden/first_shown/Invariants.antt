use Rattle.std.proofs.Common.{◌+◌, ◌≤◌, length}
use Rattle.canvas.proofs.hidden.first_shown.Given as goal

abbrev pub invariant-loop-rest : goal.invariant-loop-rest
invariant-loop-rest l = (l.rest ≤ length l.chunk) × (l.rest ≤ l.keeping + 1)

abbrev pub decreases-loop-rest : goal.decreases-loop-rest
decreases-loop-rest l = l.rest
