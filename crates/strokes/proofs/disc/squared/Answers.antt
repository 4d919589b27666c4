use Rattle.std.proofs.Common.{arith, refl, ◌^◌}
use Rattle.std.proofs.lemmas.Int.{ints}
use Rattle.strokes.proofs.Lines.{IsProduct, product_of}
use Rattle.strokes.proofs.disc.squared.Goals as goal

product : (c : goal.After-from-distance) → IsProduct c.from-distance.result c.from-distance.result c.args.distance c.args.distance (2 ^ 50)
product c =
    product_of _ _ _ _ (2 ^ 25) (2 ^ 25) (2 ^ 50) (omega (arith, ints)) (omega (arith, ints)) c.requires c.requires (omega arith) (omega arith) refl (omega arith)

pub overflow_mul-result : goal.overflow_mul-result
overflow_mul-result c = (product c).fits

pub returns-clause-value : goal.returns-clause-value
returns-clause-value c = (product c).value

pub returns-clause-size : goal.returns-clause-size
returns-clause-size c = (product c).size
