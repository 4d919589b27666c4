use Rattle.std.proofs.Common.{arith}
use Rattle.std.proofs.lemmas.Int.{ints, clamps}
use Rattle.fills.proofs.window.blocks_with.Goals as goal

pub returns-clause-all : goal.returns-clause-all
returns-clause-all c i offset h l low high = (
  omega (arith, ints, clamps, low, h, l, c.clamp-first.ensures, c.from-origin.ensures, c.from.ensures),
  omega (arith, ints, clamps, high, h, l, c.clamp-end.ensures, c.from-origin.ensures, c.from-2.ensures, c.div_ceil.ensures),
)
