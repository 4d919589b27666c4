use Rattle.std.proofs.Common.{arith}
use Rattle.std.proofs.lemmas.Int.{ints}
use Rattle.cover.proofs.Triangle.{clockwise, counterclockwise}
use Rattle.cover.proofs.edges.Edges.of.Goals as goal

pub returns-then-area2-gt0 : goal.returns-then-area2-gt0
returns-then-area2-gt0 c =
    clockwise c.args.t.now _ (omega (arith, ints, c.area2.ensures.value)) c.new.ensures c.new-then-area2-gt0.ensures c.new-then-area2-gt0-2.ensures

pub returns-else-area2-gt0 : goal.returns-else-area2-gt0
returns-else-area2-gt0 c =
    counterclockwise c.args.t.now _ (omega (arith, ints, c.area2.ensures.value, c.requires)) c.new-else-area2-gt0.ensures c.new-else-area2-gt0-2.ensures c.new-else-area2-gt0-3.ensures
