use Rattle.std.proofs.Common.{◌≡◌, ℕ, ◌<◌, ◌≤◌, length, get_or, vec_len, vec_capacity}
use Rattle.pool.specs.Counters.{without_one, one_seat}
use Rattle.pool.specs.Handles.{knowledge_of, IsIn}
use Rattle.pool.specs.Rows.{IsRow}
use Rattle.pool.specs.declared.counter.Counter.{Counter}
use Rattle.pool.specs.declared.counter.CounterHandle.{CounterHandle}
use Rattle.pool.proofs.desks.deals.cut_row.Given as goal

abbrev pub invariant-loop-desk : goal.invariant-loop-desk
invariant-loop-desk l =
    (vec_len l.row ≡ l.desk)
    × (length l.counters.items ≤ vec_capacity l.row)
    × IsRow l.counters.items l.rest.items
    × ((d : ℕ) (o : Counter) (p : CounterHandle) → d < l.desk → IsIn (get_or l.counters.items d o) (get_or l.row.items d p))
    × ((d : ℕ) (p q : CounterHandle) → d < l.desk → knowledge_of (get_or l.row.items d p) ≡ one_seat (knowledge_of (get_or l.initial.rest.items d q)))
    × ((d : ℕ) (p q : CounterHandle) → d < l.desk → knowledge_of (get_or l.rest.items d p) ≡ without_one (knowledge_of (get_or l.initial.rest.items d q)))
    × ((d : ℕ) (p : CounterHandle) → l.desk ≤ d → d < length l.counters.items → get_or l.rest.items d p ≡ get_or l.initial.rest.items d p)
