use Rattle.std.proofs.Common.{arith, sym, ◌≡◌, subst, ℕ, ◌+◌, length, vec_len}
use Rattle.std.specs.Vec.Iter.{into_iter_items}
use Rattle.pool.specs.Work.{EachFrom, IsWorkerResult, IsPromised}
use Rattle.pool.proofs.Placing.{EachFrom-next, EachFrom-push}
use Rattle.pool.proofs.workers.join_all.Goals as goal

pub loop-worker-preserved : goal.loop-worker-preserved
loop-worker-preserved g c =
    let at = c.loop-worker in
    let steps = c.in-Some.ensures.steps in
    let dealer = c.args._dealer.now in
    let job = c.args._job.now in
    let pushed = c.push_reserved.ensures in
    let next = EachFrom-next (IsPromised dealer job) (vec_len at.results) (into_iter_items at.worker-iterator) (into_iter_items c.next.new.self) c.in-Some.worker steps.0 at.invariant.0 in
    let number : c.in-Some.worker.promise.number ≡ 0 + length at.results.items = omega (arith, next.0.2, at.results.ok) in
    let kept = subst (λ d. IsWorkerResult g.D.Dealer g.J.Job d job (0 + length at.results.items) c.join.result) next.0.0
    (subst (λ j. IsWorkerResult g.D.Dealer g.J.Job c.in-Some.worker.promise.dealer.value j (0 + length at.results.items) c.join.result) next.0.1
    (subst (λ (k : ℕ). IsWorkerResult g.D.Dealer g.J.Job c.in-Some.worker.promise.dealer.value c.in-Some.worker.promise.job.value k c.join.result) number c.join.ensures)) in (
      subst (λ (k : ℕ). EachFrom (IsPromised dealer job) k (into_iter_items c.next.new.self)) (sym pushed.len) next.1,
      rw pushed.items (EachFrom-push (IsWorkerResult g.D.Dealer g.J.Job dealer job) 0 at.results.items c.join.result at.invariant.1 kept),
      omega (arith, pushed.len, steps.1, at.invariant.2),
      rw pushed.capacity at.invariant.3,
    )
