use Rattle.std.proofs.Common.{ℕ, ◌<◌}
use Rattle.draw_list.specs.Place.{IsPlace}
use Rattle.list_history.proofs.number.number_of.Given as goal

abbrev pub invariant-loop-number : goal.invariant-loop-number
invariant-loop-number l = (number : ℕ) → number < l.number → ¬ IsPlace l.list number l.place
