-- What contracts say of a dealer with one counter, and of its seats.
use Rattle.std.specs.Prelude.{ℕ, Bool, List}
use Rattle.pool.specs.Handles.{seats_of, IsIn}
use Rattle.pool.specs.declared.tickets.Tickets.{Tickets}
use Rattle.pool.specs.declared.tickets.TicketSeat.{TicketSeat}

-- How many numbers the counter has.
abbrev pub tickets_count : Tickets → ℕ
tickets_count dealer = dealer.count

-- How many seats share the counter.
abbrev pub tickets_seats : Tickets → ℕ
tickets_seats dealer = seats_of dealer.counter

-- The seat has a handle on the counter.
abbrev pub IsSeatOf : Tickets → TicketSeat → Type 0
IsSeatOf dealer seat = IsIn dealer.counter seat.handle

-- The number of a seat, from 0 on.
abbrev pub seat_number : TicketSeat → ℕ
seat_number seat = seat.number

-- The numbers that a seat was given, in their order.
abbrev pub seat_given : TicketSeat → List ℕ
seat_given seat = seat.numbers.items

-- Whether a seat has seen that no number is left.
abbrev pub seat_ended : TicketSeat → Bool
seat_ended seat = seat.ended

-- The numbers that a seat was given, and whether it has seen that none is left.
abbrev pub seat_list : TicketSeat → List ℕ × Bool
seat_list seat = (seat.numbers.items, seat.ended)
