use Rattle.std.proofs.Common.{arith, sym, ap, ◌∙◌, subst, ◌≡◌, ◌<◌, ◌∷◌, [], ◌++◌, ℕ, List, Bool, map, true, All, length, Some, ⊎_elim, vec_len}
use Rattle.std.specs.Vec.Iter.{into_iter_items}
use Rattle.std.proofs.lemmas.List.{map-append, length-map}
use Rattle.std.proofs.lemmas.List.Elements.{All-push}
use Rattle.pool.specs.Counters.{times}
use Rattle.pool.specs.Dealing.{times_in, DealtOnce, SomeEnded}
use Rattle.pool.specs.Work.{IsWorkerResult, IsRightAnswer}
use Rattle.pool.proofs.Gathering.{numbered_more}
use Rattle.pool.proofs.Placing.{EachFrom-next, all_filled, some_ended, so_far_or_new, RightInOrder-filled}
use Rattle.pool.proofs.answers.gather.Goals as goal

pub put-requires-clause-pairs : goal.put-requires-clause-pairs
put-requires-clause-pairs g c κs within =
    let at = c.loop-worker in
    let results = EachFrom-next (IsWorkerResult g.D.Dealer g.J.Job c.args.dealer c.args.job.now) (vec_len at.seats) (into_iter_items at.worker-iterator) (into_iter_items c.next.new.self) c.in-Some.worker c.in-Some.ensures.steps.0 at.invariant.0 in
    let is = subst (IsWorkerResult g.D.Dealer g.J.Job c.args.dealer c.args.job.now (vec_len at.seats)) c.in_ok-seat.was results.0 in
    subst (λ (k : ℕ). All (IsRightAnswer (g.J.Job.right c.args.job.now) k) c.in_ok-seat.field-0.pairs.items) (c.requires.count ∙ sym at.invariant.6) is.right

pub loop-worker-preserved : goal.loop-worker-preserved
loop-worker-preserved g c =
    let at = c.loop-worker in
    let steps = c.in-Some.ensures.steps in
    let answers = c.in_ok-seat.field-0 in
    let results = EachFrom-next (IsWorkerResult g.D.Dealer g.J.Job c.args.dealer c.args.job.now) (vec_len at.seats) (into_iter_items at.worker-iterator) (into_iter_items c.next.new.self) c.in-Some.worker steps.0 at.invariant.0 in
    let is = subst (IsWorkerResult g.D.Dealer g.J.Job c.args.dealer c.args.job.now (vec_len at.seats)) c.in_ok-seat.was results.0 in
    let list_of : g.row.D-Seat.Denot → List ℕ × Bool = λ s. (g.D.Dealer.given s, g.D.Dealer.ended s) in
    let pushed = c.push_reserved.ensures in (
      rw pushed.len results.1,
      rw pushed.items (numbered_more g.D.Dealer.number at.seats.items answers.seat (vec_len at.seats) (vec_len c.push_reserved.new.self) at.invariant.1 is.number (sym pushed.len)),
      rw pushed.items (All-push (g.D.Dealer.fits c.args.dealer) at.seats.items answers.seat at.invariant.2 is.fits),
      rw pushed.items (All-push (λ s. g.D.Dealer.ended s ≡ true) at.seats.items answers.seat at.invariant.3 is.ended),
      omega (arith, pushed.len, steps.1, at.invariant.4),
      rw pushed.capacity at.invariant.5,
      c.put.ensures.len ∙ at.invariant.6,
      c.put.ensures.right,
      (λ k some.
          let some' : 0 < times_in k (map list_of at.seats.items ++ list_of answers.seat ∷ []) =
          subst (λ (l : List (List ℕ × Bool)). 0 < times_in k l) (ap (map list_of) pushed.items ∙ map-append list_of at.seats.items (answers.seat ∷ [])) some in
          ⊎_elim
          (λ (old : 0 < times_in k (map list_of at.seats.items)). c.put.ensures.kept k (at.invariant.8 k old))
          (λ (new : 0 < times k (g.D.Dealer.given answers.seat)). c.put.ensures.put k (subst (λ (l : List ℕ). 0 < times k l) (sym is.numbers) new))
          (so_far_or_new k (map list_of at.seats.items) (list_of answers.seat) some')),
    )

pub answers_of-requires : goal.answers_of-requires
answers_of-requires g c =
    let at = c.loop-worker in
    let list_of : g.row.D-Seat.Denot → List ℕ × Bool = λ s. (g.D.Dealer.given s, g.D.Dealer.ended s) in
    let none_left = c.in-None.ensures.steps in
    let results = rw c.in_ok-results.was at c.requires.results in
    let some : 0 < length at.seats.items = omega (arith, at.invariant.4, c.requires.seats, results.1, at.seats.ok, c.in_ok-results.results.ok, c.into_iter-worker-iterator.ensures) in
    let dealt = subst (λ l. SomeEnded l → DealtOnce (g.D.Dealer.count c.args.dealer) l) c.settle.ensures.lists c.settle.ensures.once
    (some_ended g.D.Dealer.given g.D.Dealer.ended at.seats.items some at.invariant.3) in
    all_filled c.args.n (map list_of at.seats.items) at.places.items (omega (arith, at.places.ok, at.invariant.6))
    (subst (λ (k : ℕ). DealtOnce k (map list_of at.seats.items)) c.requires.count dealt) at.invariant.8

pub returns-clause-len : goal.returns-clause-len
returns-clause-len g c =
    let answers = c.in_ok-answers_of.field-0 in
    let is = rw c.in_ok-answers_of.was at c.answers_of.ensures in
    let len = ap length is in
    let m = length-map answers.items (λ answer. Some answer) in omega (arith, answers.ok, c.loop-worker.places.ok, c.loop-worker.invariant.6)

pub returns-clause-right : goal.returns-clause-right
returns-clause-right g c =
    RightInOrder-filled (g.J.Job.right c.args.job.now) c.loop-worker.places.items c.in_ok-answers_of.field-0.items c.loop-worker.invariant.7 (rw c.in_ok-answers_of.was at c.answers_of.ensures)
