-- What contracts say of a counter and of a handle on it.
use Rattle.std.specs.Prelude.{◌≡◌, ℕ}
use Rattle.pool.specs.declared.known.Known.{Known}
use Rattle.pool.specs.declared.counter.Counter.{Counter}
use Rattle.pool.specs.declared.counter.CounterHandle.{CounterHandle}

-- How many numbers the counter has.
abbrev pub counter_count : Counter → ℕ
counter_count counter = counter.table.shared.key.count

-- How many seats share the counter.
abbrev pub seats_of : Counter → ℕ
seats_of counter = counter.table.shared.key.seats

-- What a handle knows of its counter.
abbrev pub knowledge_of : CounterHandle → Known
knowledge_of handle = handle.seat.me.0

-- The handle is one of this counter.
abbrev pub IsIn : Counter → CounterHandle → Type 0
IsIn counter handle = (handle.seat.table_id ≡ counter.table.shared.table_id) × ((knowledge_of handle).count ≡ counter_count counter)
