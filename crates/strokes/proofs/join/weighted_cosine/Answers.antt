use Rattle.std.proofs.Common.{arith, pos, ◌*◌, ◌^◌}
use Rattle.std.proofs.lemmas.Int.{ints}
use Rattle.strokes.specs.Segment.{dot}
use Rattle.strokes.proofs.Wide.{IsWideProduct, wide_product}
use Rattle.strokes.proofs.join.weighted_cosine.Goals as goal

product : (c : goal.After-from-2) → IsWideProduct c.from.result c.from-2.result (pos (c.args.limit * c.args.limit)) (dot c.args.b c.args.a c.args.c) (2 ^ 14 * 2 ^ 49)
product c =
    let value = c.square.ensures.value in
    let square_size = c.square.ensures.size in
    let dot = c.dot.ensures.value in
    let dot_size = c.dot.ensures.size in
    let from = c.from.ensures in
    let from_dot = c.from-2.ensures in
    wide_product _ _ _ _ (2 ^ 14) (2 ^ 49) (omega (arith, ints, value, square_size, from)) (omega (arith, ints, dot, dot_size, from_dot))
    (omega (arith, ints, value, square_size)) (omega (arith, ints, dot, dot_size)) (omega arith) (omega arith) (omega arith)

pub overflow_sub-result : goal.overflow_sub-result
overflow_sub-result c = let e = product c in omega (arith, ints, e.value, e.size)

pub returns-clause-value : goal.returns-clause-value
returns-clause-value c = let e = product c in omega (arith, ints, e.value, e.size)

pub returns-clause-size : goal.returns-clause-size
returns-clause-size c = let e = product c in omega (arith, ints, e.value, e.size)
