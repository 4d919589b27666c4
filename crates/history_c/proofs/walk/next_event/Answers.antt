use Rattle.history_c.proofs.walk.next_event.Goals as goal

pub returns-then-all-clause-event : goal.returns-then-all-clause-event
returns-then-all-clause-event c = rw c.if-all.true c.next.ensures.event

pub returns-else-all-clause-event : goal.returns-else-all-clause-event
returns-else-all-clause-event c = rw c.if-all.false c.next_covered.ensures.event
