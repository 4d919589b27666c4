use Rattle.std.proofs.Common.{subst, sym}
use Rattle.grid.specs.Samples.{IsPart}
use Rattle.cover.specs.Masks.{AreMasksOfPart}
use Rattle.cover.specs.Square.{TestedSquare}
use Rattle.cover.proofs.Corners.{small_corner}
use Rattle.cover.proofs.Joined.{masks_of_square}
use Rattle.cover.proofs.square.Square.masks_of_part.Goals as goal

pub masks-requires-clause-at : goal.masks-requires-clause-at
masks-requires-clause-at g c = small_corner c.self.invariant

pub returns : goal.returns
returns g c =
    let s = c.self.inside in
    let part : IsPart s.count c.args.from = subst (λ (p : TestedSquare). IsPart p.count c.args.from) (sym c.self.view_is) c.requires in
    subst (λ (p : TestedSquare). AreMasksOfPart p.triangle p.bx p.by p.count c.args.from c.masks.result) c.self.view_is (masks_of_square s.triangle s.edges.now s.at s.bx s.by s.side s.count c.args.from c.masks.result part c.self.invariant c.masks.ensures)
