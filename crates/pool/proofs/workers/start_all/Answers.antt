use Rattle.std.proofs.Common.{arith, ◌≡◌, ◌∙◌, [], ap}
use Rattle.std.specs.Vec.Iter.{into_iter_items, into_iter_len}
use Rattle.std.proofs.lemmas.List.Elements.{All-rest}
use Rattle.pool.specs.Work.{IsPromised}
use Rattle.pool.proofs.Placing.{EachFrom-push, numbers_left}
use Rattle.pool.proofs.workers.start_all.Goals as goal

pub loop-seat-preserved : goal.loop-seat-preserved
loop-seat-preserved g c =
    let at = c.loop-seat in
    let steps = c.in-Some.ensures.steps in
    let pushed = c.push_reserved.ensures in
    let promise = c.in-Ok.ensures.ok in (
      rw pushed.items
          (EachFrom-push (IsPromised c.args.dealer.now c.args.job.now) 0 at.workers.items c.in-Ok.worker at.invariant.0 (
            ap (λ p. p.dealer.value) promise ∙ c.of.ensures,
            ap (λ p. p.job.value) promise ∙ c.of-in-loop-seat.ensures,
            (let same = ap (λ p. p.number) promise in omega (arith, same, c.len-number.ensures, at.workers.ok, at.invariant.3)),
          )),
      All-rest (λ s. g.D.Dealer.fits c.args.dealer.now s × (g.D.Dealer.given s ≡ [])) c.in-Some.seat (into_iter_items c.next.new.self) (into_iter_items at.seat-iterator) steps.0 at.invariant.1,
      numbers_left g.D.Dealer.number (into_iter_items at.seat-iterator) (into_iter_items c.next.new.self) c.in-Some.seat _ (into_iter_len at.seat-iterator) (into_iter_len c.next.new.self) _
          steps.0 at.invariant.2 steps.1 pushed.len,
      omega (arith, pushed.len, steps.1, at.invariant.3),
      rw pushed.capacity at.invariant.4,
    )
