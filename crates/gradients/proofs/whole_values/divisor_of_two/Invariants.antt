use Rattle.std.proofs.Common.{ℕ}
use Rattle.std.specs.Int.{◌∣◌}
use Rattle.gradients.proofs.whole_values.divisor_of_two.Given as goal

-- what divides both numbers divides both of before
abbrev pub invariant-loop-rest : goal.invariant-loop-rest
invariant-loop-rest l = (d : ℕ) → d ∣ l.divisor → d ∣ l.rest → (d ∣ l.fn.a) × (d ∣ l.fn.b)

abbrev pub decreases-loop-rest : goal.decreases-loop-rest
decreases-loop-rest l = l.rest
