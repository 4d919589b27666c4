use Rattle.std.proofs.Common.{◌<◌, length, ◌∙◌, ap, ◌++◌, ◌∷◌, [], arith}
use Rattle.std.proofs.lemmas.Bool.Decides.{nat_tests}
use Rattle.pool.proofs.desks.Desks.next_number.Goals as goal

pub returns-in-Some-clause-some : goal.returns-in-Some-clause-some
returns-in-Some-clause-some c =
    let was = c.requires.0.row.0 in
    let is = c.in-Some.ensures.seat.0.0.row.0 in
    let left = c.loop-seat-test.true in
    let counters = c.args.self.now.counters.ok.0 in
    let len = c.len.ensures in
    let s = c.in-Some.ensures.some in
    let up = c.loop-seat.invariant.3 in
    let before : c.args.seat.now.passed < length c.args.seat.now.handles.items = omega arith in
    let after : c.draw_in_turn.new.seat.passed < length c.draw_in_turn.new.seat.handles.items = omega arith in
    (s.0, s.1 ∙ ap (λ l. l ++ c.in-Some.number ∷ []) c.loop-seat.invariant.2, grind (arith, nat_tests), grind (arith, nat_tests))
