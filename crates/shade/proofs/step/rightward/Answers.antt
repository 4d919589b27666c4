use Rattle.std.proofs.Common.{arith}
use Rattle.std.proofs.lemmas.Int.{ints}
use Rattle.shade.proofs.Steps.{rightward}
use Rattle.shade.proofs.step.rightward.Goals as goal

pub returns-clause-stepped : goal.returns-clause-stepped
returns-clause-stepped c = λ p. rightward c.args.a c.args.b p _ (omega (arith, ints, c.y.ensures.in_band, c.y-2.ensures.in_band))
