-- Counters in a row, one for each seat, and the handles that a seat has in them.
use Rattle.std.specs.Prelude.{◌≡◌, ℕ, ◌+◌, ◌-◌, ◌/◌, ◌%◌, ◌<◌, ◌≤◌, List, [], length, slice_index_or}
use Rattle.pool.specs.Counters.{times, once_below, known, both}
use Rattle.pool.specs.Handles.{counter_count, seats_of, knowledge_of, IsIn}
use Rattle.pool.specs.declared.counter.Counter.{Counter}
use Rattle.pool.specs.declared.counter.CounterHandle.{CounterHandle}

-- How many of the numbers d, d + w, d + 2 * w and so on are below n.
abbrev pub desk_count : ℕ → ℕ → ℕ → ℕ
desk_count n w d = (n + w - 1 - d) / w

-- How many desks seat s comes to before it comes to desk d.
abbrev pub turns_to : ℕ → ℕ → ℕ → ℕ
turns_to w s d = (d + w - s) % w

-- Each counter is a desk, which all seats share. The numbers below n stand in turn at the desks.
abbrev pub AreDesks : ℕ → List Counter → Type 0
AreDesks n counters = (d : ℕ) (other : Counter) → d < length counters
    → (counter_count (slice_index_or counters d other) ≡ desk_count n (length counters) d) × (seats_of (slice_index_or counters d other) ≡ length counters)

-- The row has one handle in each counter.
abbrev pub IsRow : List Counter → List CounterHandle → Type 0
IsRow counters handles = (length handles ≡ length counters)
    × ((d : ℕ) (counter : Counter) (handle : CounterHandle) → d < length counters → IsIn (slice_index_or counters d counter) (slice_index_or handles d handle))

-- Each handle of the last row has what those of the two rows have.
abbrev pub AreJoined : List CounterHandle → List CounterHandle → List CounterHandle → Type 0
AreJoined whole row joined = (d : ℕ) (p q r : CounterHandle) → d < length whole
    → knowledge_of (slice_index_or joined d p) ≡ both (knowledge_of (slice_index_or whole d q)) (knowledge_of (slice_index_or row d r))

-- The handle of all seats has each number at most once, and exactly once if a seat has marked the counter.
abbrev pub IsClosed : Counter → CounterHandle → Type 0
IsClosed counter handle = ((x : ℕ) → times x (knowledge_of handle).numbers ≤ once_below x (counter_count counter))
    × (0 < (knowledge_of handle).marks → (x : ℕ) → times x (knowledge_of handle).numbers ≡ once_below x (counter_count counter))

-- Each handle stands for `seats` seats, which were given nothing.
abbrev pub AreUncut : ℕ → List Counter → List CounterHandle → Type 0
AreUncut seats counters handles = (d : ℕ) (counter : Counter) (handle : CounterHandle) → d < length counters
    → knowledge_of (slice_index_or handles d handle) ≡ known (counter_count (slice_index_or counters d counter)) seats [] 0
