use Rattle.std.proofs.Common.{◌-◌, ◌≤◌}
use Rattle.canvas.specs.Hidden.{FirstKeepDepths}
use Rattle.canvas.proofs.hidden.keeping_depths.Given as goal

abbrev pub invariant-loop-k : goal.invariant-loop-k
invariant-loop-k l = (l.next ≤ 64) × FirstKeepDepths l.chunk l.tile l.next

abbrev pub decreases-loop-k : goal.decreases-loop-k
decreases-loop-k l = 64 - l.next
