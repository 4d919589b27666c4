use Rattle.std.proofs.Common.{length}
use Rattle.list_history.specs.Walk.{history_start}
use Rattle.history_c.proofs.Walking.{IsWalked}
use Rattle.history_c.proofs.walk.write_events.Given as goal

abbrev pub invariant-loop-event : goal.invariant-loop-event
invariant-loop-event l = IsWalked l.all (history_start l.list l.px l.py l.s) l.history l.fn.events l.events l.count

abbrev pub decreases-loop-event : goal.decreases-loop-event
decreases-loop-event l = length l.history.history.left
