use Rattle.std.proofs.Common.{◌≡◌, ℕ, ◌<◌, ◌≤◌, get_or, vec_len, vec_capacity}
use Rattle.pool.specs.Handles.{counter_count, seats_of}
use Rattle.pool.specs.Rows.{desk_count, IsRow, AreUncut}
use Rattle.pool.specs.declared.counter.Counter.{Counter}
use Rattle.pool.proofs.desks.deals.make_desks.Given as goal

abbrev pub invariant-loop-desk : goal.invariant-loop-desk
invariant-loop-desk l =
    (vec_len l.counters ≡ l.desk)
    × (vec_len l.rest ≡ l.desk)
    × (l.desks ≤ vec_capacity l.counters)
    × (l.desks ≤ vec_capacity l.rest)
    × ((d : ℕ) (o : Counter) → d < l.desk → (counter_count (get_or l.counters.items d o) ≡ desk_count l.n l.desks d) × (seats_of (get_or l.counters.items d o) ≡ l.desks))
    × IsRow l.counters.items l.rest.items
    × AreUncut l.desks l.counters.items l.rest.items
