use Rattle.std.proofs.Common.{◌≡◌, Bool, eqb, ◌∷◌, [], ◌++◌, map, sym, ap, ◌∙◌, subst, append_assoc, length, arith}
use Rattle.std.proofs.lemmas.List.{map-append}
use Rattle.std.proofs.lemmas.List.Elements.{All-same, All-head, All-tail, All-weaker}
use Rattle.std.specs.Vec.Iter.{into_iter_items}
use Rattle.pool.specs.Dealing.{list_of}
use Rattle.pool.specs.Desks.{IsDeskSeat, Gathers, seat_list, IsSeatOf}
use Rattle.pool.specs.declared.desks.DeskSeat.{DeskSeat}
use Rattle.pool.proofs.DeskGathering.{gathers_first, gathers_more, none_twice, dealt_once}
use Rattle.pool.proofs.Rowed.{headed, some_of}
use Rattle.pool.proofs.desks.Desks.gather_all.Goals as goal

pub loop-seat-init : goal.loop-seat-init
loop-seat-init c =
    let first = c.remove-passed.result in
    let rest = c.remove-passed.new.self.items in
    let counters = c.args.self.counters.items in
    let P = λ (s : DeskSeat). IsSeatOf c.args.self s in
    let Q = λ (s : DeskSeat). IsDeskSeat c.args.self.count counters s.number s.passed s.handles.items s.numbers.items in
    let many = c.requires.seats in
    let some = c.args.self.some in
    let len = c.args.seats.ok.0 in
    let all : c.args.seats.items ≡ first ∷ rest = headed c.args.seats.items first rest (omega arith) c.remove-passed.ensures.value c.remove-passed.ensures.items in
    let left : into_iter_items c.into_iter-seat-iterator.result ≡ rest = c.into_iter-seat-iterator.ensures.into_iter_gives.0 in
    let fits = All-same P (first ∷ rest) c.args.seats.items (sym all) c.requires.fits in
    let own = (All-head P first rest fits).0 in
    let end : eqb first.passed c.len.result ≡ eqb first.passed (length first.handles.items) = ap (eqb first.passed) (c.len.ensures ∙ first.handles.ok.0) in
    let list : map list_of c.push_reserved.new.self.items ≡ seat_list first ∷ []
    = ap (map list_of) (c.push_reserved.ensures.items ∙ ap (λ l. l ++ (first.numbers, eqb first.passed c.len.result) ∷ []) c.args.self.empty) ∙ ap (λ (b : Bool). (first.numbers.items, b) ∷ []) end in (
      ap (λ l. l ++ map seat_list (into_iter_items c.into_iter-seat-iterator.result)) list ∙ ap (λ l. seat_list first ∷ map seat_list l) left ∙ ap (map seat_list) (sym all),
      All-same Q (into_iter_items c.into_iter-seat-iterator.result) rest left (All-weaker P Q (λ s h. h.0) rest (All-tail P first rest fits)),
      (let a = c.into_iter-seat-iterator.ensures.into_iter_gives in let l = ap length left in let o = c.remove-passed.new.self.ok in omega arith),
      (let a = c.into_iter-seat-iterator.ensures.into_iter_gives in let e = c.remove-passed.ensures.len in let p = c.push_reserved.ensures in let room = c.args.self.room in
          let none = ap length c.args.self.empty in let o = c.args.self.lists.ok in omega arith),
      own.row,
      subst (Gathers (length counters) first.handles.items) (sym list) (gathers_first c.args.self.count counters first.number first.passed first.handles.items first.numbers.items own),
    )

pub loop-seat-preserved : goal.loop-seat-preserved
loop-seat-preserved c =
    let at = c.loop-seat in
    let seat = c.in-Some.seat in
    let counters = c.args.self.counters.items in
    let rest = into_iter_items c.next.new.self in
    let Q = λ (s : DeskSeat). IsDeskSeat c.args.self.count counters s.number s.passed s.handles.items s.numbers.items in
    let steps : into_iter_items at.seat-iterator ≡ seat ∷ rest = c.in-Some.ensures.steps.0 in
    let fits = All-same Q (seat ∷ rest) (into_iter_items at.seat-iterator) (sym steps) at.invariant.1 in
    let own = All-head Q seat rest fits in
    let end : eqb seat.passed c.len-in-loop-seat.result ≡ eqb seat.passed (length seat.handles.items) = ap (eqb seat.passed) (c.len-in-loop-seat.ensures ∙ seat.handles.ok.0) in
    let had = map list_of at.lists.items in
    let list : map list_of c.push_reserved-in-loop-seat.new.self.items ≡ had ++ seat_list seat ∷ []
    = ap (map list_of) c.push_reserved-in-loop-seat.ensures.items ∙ map-append list_of at.lists.items ((seat.numbers, eqb seat.passed c.len-in-loop-seat.result) ∷ [])
    ∙ ap (λ (b : Bool). had ++ (seat.numbers.items, b) ∷ []) end in (
      ap (λ l. l ++ map seat_list rest) list ∙ append_assoc had (seat_list seat ∷ []) (map seat_list rest) ∙ ap (λ l. had ++ map seat_list l) (sym steps) ∙ at.invariant.0,
      All-tail Q seat rest fits,
      (let gone = c.in-Some.ensures.steps.1 in let was = at.invariant.2 in let short = ap length steps in omega arith),
      (let gone = c.in-Some.ensures.steps.1 in let was = at.invariant.3 in let p = c.push_reserved-in-loop-seat.ensures in omega arith),
      c.join_row.ensures.whole,
      subst (Gathers (length counters) c.join_row.new.whole.items) (sym list)
          (gathers_more c.args.self.count counters seat.number seat.passed seat.handles.items seat.numbers.items at.whole.items c.join_row.new.whole.items had own at.invariant.5 at.invariant.4.0 c.join_row.ensures.joined),
    )

pub returns-clause-twice : goal.returns-clause-twice
returns-clause-twice c = none_twice c.args.self.count c.args.self.counters.items c.loop-seat.whole.items (map list_of c.loop-seat.lists.items) c.args.self.some c.args.self.counters_are c.loop-seat.invariant.5 c.close_all.ensures (some_of c.args.self.counters.items c.args.self.some) (some_of c.loop-seat.whole.items (let len = c.loop-seat.invariant.4.0 in let some = c.args.self.some in omega arith))

pub returns-clause-once : goal.returns-clause-once
returns-clause-once c = dealt_once c.args.self.count c.args.self.counters.items c.loop-seat.whole.items (map list_of c.loop-seat.lists.items) c.args.self.some c.args.self.counters_are c.loop-seat.invariant.5 c.close_all.ensures (some_of c.args.self.counters.items c.args.self.some) (some_of c.loop-seat.whole.items (let len = c.loop-seat.invariant.4.0 in let some = c.args.self.some in omega arith))
