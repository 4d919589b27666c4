use Rattle.std.proofs.Common.{arith}
use Rattle.std.proofs.lemmas.Int.{ints}
use Rattle.grid.specs.Bounds.{IsWithin}
use Rattle.gradients.proofs.WholeValues.{IsExactPast, exact_past}
use Rattle.gradients.proofs.whole_values.past_sixteenth.Goals as goal

product : (c : goal.After-from) → IsExactPast c.args.z c.args.growth c.from.result
product c =
    let small : IsWithin 16 c.rem_euclid.result = record { low = omega (arith, ints, c.rem_euclid.ensures.lower_bound); high = omega (arith, ints, c.rem_euclid.ensures.upper_bound) } in
    exact_past c.args.z c.args.growth c.from.result c.rem_euclid.result c.ranges.z c.ranges.growth c.requires c.rem_euclid.ensures.value small (omega (arith, ints, c.from.ensures, small))

pub overflow_mul-result : goal.overflow_mul-result
overflow_mul-result c = (product c).fits

pub returns-clause-value : goal.returns-clause-value
returns-clause-value c = (product c).past

pub returns-clause-size : goal.returns-clause-size
returns-clause-size c = (product c).size
