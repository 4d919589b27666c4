use Rattle.std.proofs.Common.{subst}
use Rattle.cover.specs.Masks.{AreMasksOf}
use Rattle.cover.specs.Square.{TestedSquare}
use Rattle.cover.proofs.setup.Setup.masks.Goals as goal

pub returns : goal.returns
returns c = subst (λ (p : TestedSquare). AreMasksOf p.triangle p.bx p.by p.count c.masks_of_part.result) c.square.ensures c.masks_of_part.ensures
