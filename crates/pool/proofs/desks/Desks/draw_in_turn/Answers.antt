use Rattle.std.proofs.Common.{◌∙◌, refl, arith}
use Rattle.pool.proofs.DeskSteps.{may_draw, marks_desk, takes_number}
use Rattle.pool.proofs.desks.Desks.draw_in_turn.Goals as goal

pub draw-requires-clause-unmarked : goal.draw-requires-clause-unmarked
draw-requires-clause-unmarked c =
    may_draw _ _ _ _ _ _ c.requires.seat.0 c.requires.left c.index.result.now c.index_mut.result.now c.index_mut.result.now c.len-desks.result (c.len-desks.ensures ∙ c.args.self.now.counters.ok.0)
    (c.index.ensures, c.index_mut.ensures.value)

pub push_reserved-requires : goal.push_reserved-requires
push_reserved-requires c =
    let t = takes_number _ _ _ _ _ _ c.requires.seat.0 c.requires.left c.index.result.now c.index_mut.result.now c.draw.new.handle c.in-Some.j c.args.self.now.counters_are c.in-Some.ensures.handle
    c.in-Some.ensures.number.1 c.in-Some.ensures.rises.0 c.in-Some.ensures.number.0 c.len-desks.result (c.len-desks.ensures ∙ c.args.self.now.counters.ok.0) (c.index.ensures, c.index_mut.ensures.value) in
    let few = t.1 in
    let room = c.requires.seat.1 in
    let len = c.args.seat.now.numbers.ok in
    omega arith

pub returns-in-Some-clause-seat : goal.returns-in-Some-clause-seat
returns-in-Some-clause-seat c =
    let t = takes_number _ _ _ _ _ _ c.requires.seat.0 c.requires.left c.index.result.now c.index_mut.result.now c.draw.new.handle c.in-Some.j c.args.self.now.counters_are c.in-Some.ensures.handle
    c.in-Some.ensures.number.1 c.in-Some.ensures.rises.0 c.in-Some.ensures.number.0 c.len-desks.result (c.len-desks.ensures ∙ c.args.self.now.counters.ok.0) (c.index.ensures, c.index_mut.ensures.value) in
    ((rw c.push_reserved.ensures.items t.0, rw c.push_reserved.ensures.capacity c.requires.seat.1), refl)

pub returns-in-None-clause-seat : goal.returns-in-None-clause-seat
returns-in-None-clause-seat c = (
  (
    marks_desk _ _ _ _ _ _ c.requires.seat.0 c.requires.left c.index.result.now c.index_mut.result.now c.draw.new.handle c.len-desks.result (c.len-desks.ensures ∙ c.args.self.now.counters.ok.0)
        (c.index.ensures, c.index_mut.ensures.value) c.in-None.ensures.handle c.in-None.ensures.mark,
    c.requires.seat.1,
  ),
  refl,
)
