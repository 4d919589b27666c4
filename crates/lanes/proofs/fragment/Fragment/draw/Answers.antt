use Rattle.std.proofs.Common.{refl, subst}
use Rattle.lanes.specs.BlockMask.{IsBlockMerged}
use Rattle.lanes.specs.Fragment.{FlatFragment}
use Rattle.lanes.proofs.Given.{made_otherwise}
use Rattle.lanes.proofs.fragment.Fragment.draw.Goals as goal

pub returns-clause-drawn : goal.returns-clause-drawn
returns-clause-drawn c =
    subst (λ (f : FlatFragment). IsBlockMerged f c.args.mask.now c.args.samples.now c.draw_by_mode.new.samples) c.self.view_is
    (made_otherwise _ _ c.args.mask.now _ _ (λ s k few low set x y takes. takes _ refl) c.draw_by_mode.ensures.drawn)
