use Rattle.std.proofs.Common.{arith, refl, ◌^◌, ◌-ℤ◌}
use Rattle.std.proofs.lemmas.Int.{ints}
use Rattle.strokes.proofs.Lines.{IsProduct, product_of}
use Rattle.strokes.proofs.line.product.Goals as goal

product : (c : goal.After-from) → IsProduct c.from.result c.from-distance.result c.args.by (c.args.to -ℤ c.args.start) (2 ^ 49)
product c =
    product_of _ _ _ _ (2 ^ 24) (2 ^ 25) (2 ^ 49) (omega (arith, ints)) (omega (arith, ints)) c.requires.by
    (record { low = omega (arith, ints, c.requires.start.high, c.requires.to.low); high = omega (arith, ints, c.requires.start.low, c.requires.to.high) }) (omega arith) (omega arith) refl (omega arith)

pub overflow_mul-result : goal.overflow_mul-result
overflow_mul-result c = (product c).fits

pub returns-clause-value : goal.returns-clause-value
returns-clause-value c = (product c).value

pub returns-clause-size : goal.returns-clause-size
returns-clause-size c = (product c).size
