-- What contracts say of a dealer with a counter for each seat, and of its seats.
use Rattle.std.specs.Prelude.{◌≡◌, ℕ, ◌+◌, ◌*◌, ◌<◌, ◌≤◌, ◌==◌, ◌⊎◌, Bool, List, length, slice_index_or, if◌then◌else◌, nat_lt, AllPairs, All, vec_capacity}
use Rattle.pool.specs.Counters.{times, once_below}
use Rattle.pool.specs.Dealing.{times_in, marks_in}
use Rattle.pool.specs.declared.known.Known.{Known}
use Rattle.pool.specs.Handles.{knowledge_of}
use Rattle.pool.specs.Rows.{turns_to, IsRow}
use Rattle.pool.specs.declared.counter.Counter.{Counter}
use Rattle.pool.specs.declared.counter.CounterHandle.{CounterHandle}
use Rattle.pool.specs.declared.desks.Desks.{Desks}
use Rattle.pool.specs.declared.desks.DeskSeat.{DeskSeat}

-- Seat s comes to number x before number y: the desk of x is earlier in its turn, or x is less at the same desk.
abbrev pub PrecedesInTurn : ℕ → ℕ → ℕ → ℕ → Type 0
PrecedesInTurn w s x y = (turns_to w s x < turns_to w s y) ⊎ ((turns_to w s x ≡ turns_to w s y) × (x < y))

-- Along the list of seat s the desks come in turn, and at each desk the numbers ascend.
abbrev pub GoesRound : ℕ → ℕ → List ℕ → Type 0
GoesRound w s xs = AllPairs (PrecedesInTurn w s) xs

-- The seat has a handle in each counter, has marked those that it passed, and has the numbers of its handles.
pub record IsDeskSeat (n : ℕ) (counters : List Counter) (number passed : ℕ) (handles : List CounterHandle) (numbers : List ℕ) : Type 0 where
  pub row : IsRow counters handles
  pub within : number < length counters
  pub passed_some : passed ≤ length counters
  pub one : (d : ℕ) (p : CounterHandle) → d < length counters → (knowledge_of (slice_index_or handles d p)).seats ≡ 1
  pub marks : (d : ℕ) (p : CounterHandle) → d < length counters → (knowledge_of (slice_index_or handles d p)).marks ≡ (if nat_lt (turns_to (length counters) number d) passed then 1 else 0)
  pub same : (d j : ℕ) (p : CounterHandle) → d < length counters → times (d + j * length counters) numbers ≡ times j (knowledge_of (slice_index_or handles d p)).numbers
  pub once : (k : ℕ) → times k numbers ≤ once_below k n
  pub turn : All (λ k. turns_to (length counters) number k ≤ passed) numbers
  pub order : GoesRound (length counters) number numbers

-- The seat is one of these desks, and its list has the capacity for all their numbers.
abbrev pub IsSeatOf : Desks → DeskSeat → Type 0
IsSeatOf dealer seat =
    IsDeskSeat dealer.count dealer.counters.items seat.number seat.passed seat.handles.items seat.numbers.items × (dealer.count ≤ vec_capacity seat.numbers)

-- How many numbers the desks have.
abbrev pub desks_count : Desks → ℕ
desks_count dealer = dealer.count

-- How many seats share the desks: as many as there are desks.
abbrev pub desks_seats : Desks → ℕ
desks_seats dealer = length dealer.counters.items

-- The number of a seat, which is also that of its own desk.
abbrev pub seat_number : DeskSeat → ℕ
seat_number seat = seat.number

-- The numbers that a seat was given, in their order.
abbrev pub seat_given : DeskSeat → List ℕ
seat_given seat = seat.numbers.items

-- Whether a seat has passed all desks, so that no number is left.
abbrev pub seat_ended : DeskSeat → Bool
seat_ended seat = seat.passed == length seat.handles.items

-- The numbers that a seat was given, and whether it has passed all desks.
abbrev pub seat_list : DeskSeat → List ℕ × Bool
seat_list seat = (seat_given seat, seat_ended seat)

-- The handle at desk d has what the lists have of the desk's numbers, and at least a mark for each that has ended.
abbrev pub GathersAt : ℕ → ℕ → Known → List (List ℕ × Bool) → Type 0
GathersAt w d v lists = (v.seats ≡ length lists) × ((j : ℕ) → times j v.numbers ≡ times_in (d + j * w) lists) × (marks_in lists ≤ v.marks)

-- At each desk the handle has what the lists have of the desk's numbers, and at least a mark for each that has ended.
abbrev pub Gathers : ℕ → List CounterHandle → List (List ℕ × Bool) → Type 0
Gathers w whole lists = (d : ℕ) (p : CounterHandle) → d < w → GathersAt w d (knowledge_of (slice_index_or whole d p)) lists
