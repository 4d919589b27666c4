use Rattle.std.proofs.Common.{◌≡◌, ◌+◌, ◌≤◌, [], map, All, vec_len, vec_capacity}
use Rattle.std.specs.List.{range_with_len}
use Rattle.std.specs.Vec.Iter.{into_iter_items, into_iter_len}
use Rattle.pool.specs.Work.{EachFrom, IsPromised}
use Rattle.pool.proofs.workers.start_all.Given as goal

-- the seats that are left bear the next numbers, and there is capacity for their workers
abbrev pub invariant-loop-seat : goal.invariant-loop-seat
invariant-loop-seat g l =
    EachFrom (IsPromised l.dealer l.job) 0 l.workers.items
    × All (λ s. g.D.Dealer.fits l.dealer s × (g.D.Dealer.given s ≡ [])) (into_iter_items l.seat-iterator)
    × (map g.D.Dealer.number (into_iter_items l.seat-iterator) ≡ range_with_len (vec_len l.workers) (into_iter_len l.seat-iterator))
    × (vec_len l.workers + into_iter_len l.seat-iterator ≡ vec_len l.fn.seats)
    × (vec_len l.fn.seats ≤ vec_capacity l.workers)
