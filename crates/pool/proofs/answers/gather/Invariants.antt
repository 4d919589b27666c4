use Rattle.std.proofs.Common.{◌≡◌, ◌<◌, ◌≤◌, ◌+◌, ℕ, true, map, vec_len, vec_capacity, All}
use Rattle.std.specs.List.{range_with_len}
use Rattle.std.specs.Vec.Iter.{into_iter_items, into_iter_len}
use Rattle.pool.specs.Dealing.{times_in}
use Rattle.pool.specs.Work.{EachFrom, IsWorkerResult, AreRight, HasAnswer}
use Rattle.pool.proofs.answers.gather.Given as goal

-- the seats so far stand in their order, and each number that they were given has its answer
abbrev pub invariant-loop-worker : goal.invariant-loop-worker
invariant-loop-worker g l =
    EachFrom (IsWorkerResult g.D.Dealer g.J.Job l.dealer l.job) (vec_len l.seats) (into_iter_items l.worker-iterator)
    × (map g.D.Dealer.number l.seats.items ≡ range_with_len 0 (vec_len l.seats))
    × All (g.D.Dealer.fits l.dealer) l.seats.items
    × All (λ s. g.D.Dealer.ended s ≡ true) l.seats.items
    × (vec_len l.seats + into_iter_len l.worker-iterator ≡ into_iter_len l.initial.worker-iterator)
    × (into_iter_len l.initial.worker-iterator ≤ vec_capacity l.seats)
    × (vec_len l.places ≡ l.n)
    × AreRight (g.J.Job.right l.job) l.places.items
    × ((k : ℕ) → 0 < times_in k (map (λ s. (g.D.Dealer.given s, g.D.Dealer.ended s)) l.seats.items) → HasAnswer l.places.items k)
