use Rattle.std.proofs.Common.{◌∙◌, arith}
use Rattle.list_history.specs.Walk.{history_start}
use Rattle.history_c.proofs.Walking.{shorter, put_more, pass_more, all_walked}
use Rattle.history_c.proofs.walk.write_events.Goals as goal
use Rattle.history_c.proofs.walk.write_events.Goals.{then-count-events, else-count-events}

pub overflow_add-count : goal.overflow_add-count
overflow_add-count c =
    omega (arith, c.loop-event.invariant.few, c.triangles-most.ensures.value, c.triangles-most.ensures.greatest)

pub loop-event-smaller : goal.loop-event-smaller
loop-event-smaller c = shorter c.args.all c.loop-event.history c.next_event.new.history c.in-Some.event c.in-Some.ensures.event

pub loop-event-preserved : goal.loop-event-preserved
loop-event-preserved c =
    let q = history_start c.args.list.now c.args.px c.args.py c.args.s in
    elim c.if-count-events.branch [
      | then-count-events w ↦ put_more c.args.all q c.loop-event.history c.next_event.new.history c.in-Some.event c.args.events.now c.loop-event.events c.loop-event.count
          c.if-count-events.events w.of.result c.loop-event.invariant c.in-Some.ensures.event w.if-count-events.true w.events-is w.of.ensures
      | else-count-events w ↦ pass_more c.args.all q c.loop-event.history c.next_event.new.history c.in-Some.event c.args.events.now c.loop-event.events c.loop-event.count
          c.if-count-events.events c.loop-event.invariant c.in-Some.ensures.event w.if-count-events.false w.events-is
    ]

pub returns-clause-written : goal.returns-clause-written
returns-clause-written c =
    all_walked c.args.all (history_start c.args.list.now c.args.px c.args.py c.args.s) c.loop-event.history c.args.events.now c.loop-event.events c.loop-event.count c.stored.result
    c.loop-event.invariant c.in_default.ensures.over (c.stored.ensures ∙ c.in_default.ensures.stored)
