use Rattle.std.proofs.Common.{◌≡◌, ◌<◌, ◌≤◌, ◌-◌, ◌+◌, ℕ, [], length, false, ap, ◌∙◌, subst, rules, arith, vec_capacity}
use Rattle.std.proofs.lemmas.Bool.Decides.{nat_tests}
use Rattle.std.proofs.lemmas.List.Elements.{All-push, All-weaker}
use Rattle.pool.specs.Rows.{AreUncut}
use Rattle.pool.specs.Desks.{IsDeskSeat, seat_number, seat_given, seat_ended}
use Rattle.pool.specs.declared.desks.DeskSeat.{DeskSeat}
use Rattle.pool.proofs.DeskSteps.{fresh, one_less, cut_off}
use Rattle.pool.proofs.Gathering.{numbered_more}
use Rattle.pool.proofs.Rowed.{some_of}
use Rattle.pool.proofs.desks.calls.DesksDealer.deal.Goals as goal

pub cut_row-requires-clause-uncut : goal.cut_row-requires-clause-uncut
cut_row-requires-clause-uncut c = λ d p h.
    let is = c.loop-number.invariant.1 d (some_of c.in_ok-counters.counters.items (omega arith)) p h in
    let seats = ap (λ k. k.seats) is in
    (omega arith, ap (λ k. k.marks) is)

pub loop-number-preserved : goal.loop-number-preserved
loop-number-preserved c =
    let at = c.loop-number in
    let counters = c.in_ok-counters.counters.items in
    let seat = c.in_ok-new.field-0 in
    let P = λ (s : DeskSeat). IsDeskSeat c.args.n counters s.number s.passed s.handles.items s.numbers.items × (c.args.n ≤ vec_capacity s.numbers) × (seat_given s ≡ []) × (s.passed ≡ 0) in
    let made = c.in_ok-new.ensures in
    let handles = ap (λ v. v.items) made.2 in
    let desks = c.in_ok-counters.ensures.counters.0 in
    let here : seat.number < length counters = (let e = made.0 in omega arith) in (
      c.in_ok-handles.ensures.rows.0,
      subst (λ (k : ℕ). AreUncut k counters c.cut_row.new.rest.items) (omega arith) (one_less (c.args.seats - at.number) counters at.rest.items c.cut_row.new.rest.items at.invariant.1 c.in_ok-handles.ensures.rest),
      rw c.push_reserved.ensures.items (numbered_more seat_number at.row.items seat at.number _ at.invariant.2 made.0 (omega arith)),
      rw c.push_reserved.ensures.items
          (All-push P at.row.items seat at.invariant.3 (
            rw handles (fresh c.args.n counters seat.number seat.passed c.in_ok-handles.handles.items seat.numbers.items c.in_ok-handles.ensures.rows.1 here
                (cut_off (c.args.seats - at.number) counters at.rest.items c.in_ok-handles.handles.items at.invariant.1 c.in_ok-handles.ensures.row) made.1 made.3),
            made.4,
            made.3,
            made.1,
          )),
      search rules,
      search rules,
    )

pub returns-clause-seats : goal.returns-clause-seats
returns-clause-seats c =
    let at = c.loop-number in
    let last : at.number + 1 ≡ c.args.seats = omega arith in
    rw c.push_reserved-2.ensures.items (numbered_more seat_number at.row.items c.in_ok-new-2.field-0 at.number c.args.seats at.invariant.2 (c.in_ok-new-2.ensures.0 ∙ omega arith) last)

pub returns-clause-fresh : goal.returns-clause-fresh
returns-clause-fresh c =
    let at = c.loop-number in
    let counters = c.in_ok-counters.counters.items in
    let seat = c.in_ok-new-2.field-0 in
    let P = λ (s : DeskSeat). IsDeskSeat c.args.n counters s.number s.passed s.handles.items s.numbers.items × (c.args.n ≤ vec_capacity s.numbers) × (seat_given s ≡ []) × (s.passed ≡ 0) in
    let Q = λ (s : DeskSeat). (IsDeskSeat c.args.n counters s.number s.passed s.handles.items s.numbers.items × (c.args.n ≤ vec_capacity s.numbers)) × (seat_given s ≡ []) × (seat_ended s ≡ false) in
    let made = c.in_ok-new-2.ensures in
    let handles = ap (λ v. v.items) made.2 in
    let desks = c.in_ok-counters.ensures.counters.0 in
    let here : seat.number < length counters = (let e = made.0 in omega arith) in
    let last : c.args.seats - at.number ≡ 1 = omega arith in
    rw c.push_reserved-2.ensures.items
    (All-weaker P Q (λ s h. let len = h.0.row.0 in let none = h.3 in ((h.0, h.1), h.2, grind (arith, nat_tests))) _
    (All-push P at.row.items seat at.invariant.3 (
      rw handles (fresh c.args.n counters seat.number seat.passed at.rest.items seat.numbers.items at.invariant.0 here
          (subst (λ (k : ℕ). AreUncut k counters at.rest.items) last at.invariant.1) made.1 made.3),
      made.4,
      made.3,
      made.1,
    )))
