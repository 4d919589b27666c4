use Rattle.std.proofs.Common.{◌<◌, All, vec_len}
use Rattle.pool.specs.Desks.{IsSeatOf}
use Rattle.pool_tests.proofs.deques.agrees.Given as goal

abbrev pub invariant-loop : goal.invariant-loop
invariant-loop l = All (IsSeatOf l.dealer) l.seats.items × (0 < vec_len l.seats)

abbrev pub invariant-loop-seat : goal.invariant-loop-seat
invariant-loop-seat l = All (IsSeatOf l.dealer) l.seats.items × (0 < vec_len l.seats)
