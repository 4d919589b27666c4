use Rattle.std.proofs.Common.{arith}
use Rattle.std.proofs.lemmas.Int.{ints, clamps}
use Rattle.cover.specs.Bounds.{HoldsCovered}
use Rattle.list_history.proofs.columns.Columns.of_triangle.Goals as goal

pub returns-clause-all : goal.returns-clause-all
returns-clause-all c = λ count i j s across down sample first end covered.
    let holds : HoldsCovered c.args.triangle.now c.bounds-bounds.result = rw c.in-Some.ensures.triangle at c.bounds-bounds.ensures.covering in
    let box = holds count i j s across down sample covered in
    (omega (arith, ints, clamps, box.left, first), omega (arith, ints, clamps, box.right, end))
