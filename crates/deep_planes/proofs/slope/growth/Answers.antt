use Rattle.std.proofs.Common.{arith, w64, to_z, of_z, pos, ◌-ℤ◌}
use Rattle.std.proofs.lemmas.Int.{ints}
use Rattle.deep_planes.proofs.Slopes.{IsExactGrowth, exact_growth}
use Rattle.deep_planes.proofs.slope.growth.Goals as goal

product : (c : goal.After-from-distance) → IsExactGrowth (to_z w64 (of_z w64 c.from.result) -ℤ to_z w64 (of_z w64 c.from-2.result)) c.from-distance.result (pos c.args.to -ℤ pos c.args.from) (c.args.end -ℤ c.args.start)
product c =
    exact_growth (to_z w64 (of_z w64 c.from.result) -ℤ to_z w64 (of_z w64 c.from-2.result)) _ _ _ (omega (arith, ints)) (omega (arith, ints)) (record { low = omega (arith, ints); high = omega (arith, ints) }) (record { low = omega (arith, ints); high = omega (arith, ints) })

pub overflow_mul-result : goal.overflow_mul-result
overflow_mul-result c = (product c).fits

pub returns-clause-value : goal.returns-clause-value
returns-clause-value c = (product c).value

pub returns-clause-size : goal.returns-clause-size
returns-clause-size c = (product c).size
