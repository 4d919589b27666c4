use Rattle.std.proofs.Common.{arith, refl, pos, negsuc, ◌<ℤ◌}
use Rattle.std.proofs.lemmas.Int.{ints}
use Rattle.strokes.proofs.Lines.{none_on_side}
use Rattle.strokes.proofs.line.Line.nowhere.Goals as goal

pub returns : goal.returns
returns c p h = let below : negsuc 0 <ℤ pos 0 = omega (arith, ints) in none_on_side _ p refl refl below h
