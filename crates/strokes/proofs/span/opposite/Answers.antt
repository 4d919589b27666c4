use Rattle.std.proofs.Common.{arith}
use Rattle.std.proofs.lemmas.Int.{ints}
use Rattle.strokes.proofs.span.opposite.Goals as goal

pub returns : goal.returns
returns c = omega (arith, ints, c.requires.low, c.requires.high)
