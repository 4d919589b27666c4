use Rattle.std.proofs.Common.{arith, refl}
use Rattle.std.proofs.lemmas.Int.{ints}
use Rattle.strokes.proofs.Lines.{all_on_side}
use Rattle.strokes.proofs.line.Line.everywhere.Goals as goal

pub returns : goal.returns
returns c p = all_on_side _ p refl refl (omega (arith, ints))
