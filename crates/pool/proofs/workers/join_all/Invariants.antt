use Rattle.std.proofs.Common.{◌≡◌, ◌+◌, ◌≤◌, vec_len, vec_capacity}
use Rattle.std.specs.Vec.Iter.{into_iter_items, into_iter_len}
use Rattle.pool.specs.Work.{EachFrom, IsPromised, IsWorkerResult}
use Rattle.pool.proofs.workers.join_all.Given as goal

-- the results so far keep the promises, and the workers that are left have made the next ones
abbrev pub invariant-loop-worker : goal.invariant-loop-worker
invariant-loop-worker g l =
    EachFrom (IsPromised l._dealer l._job) (vec_len l.results) (into_iter_items l.worker-iterator)
    × EachFrom (IsWorkerResult g.D.Dealer g.J.Job l._dealer l._job) 0 l.results.items
    × (vec_len l.results + into_iter_len l.worker-iterator ≡ vec_len l.fn.workers)
    × (vec_len l.fn.workers ≤ vec_capacity l.results)
