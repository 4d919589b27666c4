use Rattle.std.proofs.Common.{◌≡◌, ◌∷◌, [], ◌++◌, map, sym, ap, ◌∙◌, append_assoc, length, arith}
use Rattle.std.proofs.lemmas.List.Elements.{All-rest}
use Rattle.std.specs.Vec.Iter.{into_iter_items}
use Rattle.pool.specs.Dealing.{list_of}
use Rattle.pool.specs.Handles.{knowledge_of, IsIn}
use Rattle.pool.specs.Tickets.{seat_list}
use Rattle.pool.specs.declared.tickets.TicketSeat.{TicketSeat}
use Rattle.pool.proofs.Gathering.{gathered_more, ended_marked}
use Rattle.pool.proofs.tickets.Tickets.gather_all.Goals as goal

pub loop-seat-preserved : goal.loop-seat-preserved
loop-seat-preserved c =
    let at = c.loop-seat in
    let seat = c.in-Some.seat in
    let rest = into_iter_items c.next.new.self in
    let steps : into_iter_items at.seat-iterator ≡ seat ∷ rest = c.in-Some.ensures.steps.0 in (
      ap (λ l. l ++ map seat_list rest) c.gather.ensures.lists ∙ append_assoc (map list_of at.lists.items) (seat_list seat ∷ []) (map seat_list rest) ∙ ap (λ l. map list_of at.lists.items ++ map seat_list l) (sym steps) ∙ at.invariant.0,
      All-rest (λ (s : TicketSeat). IsIn c.args.self.counter s.handle) seat rest (into_iter_items at.seat-iterator) steps at.invariant.1,
      (let gone = c.in-Some.ensures.steps.1 in let was = at.invariant.2 in let short = ap length steps in omega arith),
      (let gone = c.in-Some.ensures.steps.1 in let was = at.invariant.3 in let room = c.gather.ensures.room in omega arith),
      c.gather.ensures.whole.0,
      rw (c.gather.ensures.whole.1, c.gather.ensures.lists) (gathered_more (knowledge_of at.whole) (knowledge_of seat.handle) (map list_of at.lists.items) seat.numbers.items seat.ended at.invariant.5 seat.one seat.same seat.marked),
    )

pub returns-clause-once : goal.returns-clause-once
returns-clause-once c = λ ended x.
    let inv = c.loop-seat.invariant.5 in
    let marked = ended_marked (map list_of c.loop-seat.lists.items) ended in
    sym (inv.1 x) ∙ c.close.ensures.all (omega (arith, inv.2)) x
