use Rattle.std.proofs.Common.{subst, sym}
use Rattle.grid.specs.Samples.{IsPart}
use Rattle.cover.specs.Masks.{AreMasksOfPart}
use Rattle.cover.specs.Square.{TestedSquare, CoversInPatch}
use Rattle.cover.proofs.Corners.{small_corner, small_at_patch}
use Rattle.cover.proofs.Patch.{masks_of_patch}
use Rattle.cover.proofs.square.Square.masks_of_patch.Goals as goal

pub further-at-requires-clause-at : goal.further-at-requires-clause-at
further-at-requires-clause-at g c = small_corner c.self.invariant

pub masks-requires-clause-at : goal.masks-requires-clause-at
masks-requires-clause-at g c = small_at_patch c.self.invariant c.requires.patch.across c.requires.patch.along c.further-at.ensures

pub returns : goal.returns
returns g c =
    let s = c.self.inside in
    let part : IsPart s.count c.args.from = subst (λ (p : TestedSquare). IsPart p.count c.args.from) (sym c.self.view_is) c.requires.part in
    let patch = subst (λ (p : TestedSquare). CoversInPatch p c.args.left c.args.top) (sym c.self.view_is) c.requires.patch in
    subst (λ (p : TestedSquare). AreMasksOfPart p.triangle p.bx p.by p.count c.args.from c.placed.result) c.self.view_is
    (masks_of_patch s.triangle s.edges.now s.at c.further-at.result s.bx s.by s.side s.count c.args.from c.args.left c.args.top c.masks.result c.placed.result part c.self.invariant patch c.further-at.ensures c.masks.ensures c.placed.ensures.bits c.placed.ensures.empty)
