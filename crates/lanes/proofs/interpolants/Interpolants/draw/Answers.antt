use Rattle.std.proofs.Common.{◌≡◌, List, subst}
use Rattle.shade.specs.declared.placed.Placed.{Placed}
use Rattle.lanes.specs.declared.block_mask.BlockMask.{BlockMask}
use Rattle.lanes.specs.declared.block_samples.BlockSamples.{BlockSamples}
use Rattle.lanes.specs.BlockMask.{CoversBlock, IsBlockDrawn, IsBlockDrawnBy}
use Rattle.lanes.proofs.Given.{TakesTriangle, triangle_drawn}
use Rattle.lanes.proofs.interpolants.Interpolants.draw.Goals as goal

-- what is drawn of a triangle is drawn of the same triangle
drawn : (t placed : Placed) (m : BlockMask) (old new : List BlockSamples) → placed ≡ t → IsBlockDrawnBy (TakesTriangle placed) m old new → CoversBlock t m → IsBlockDrawn t m old new
drawn t placed m old new same takes =
    subst (λ (p : Placed). CoversBlock p m → IsBlockDrawn p m old new) same (λ covers. triangle_drawn placed m old new covers takes)

pub returns-in-Some-clause-drawn : goal.returns-in-Some-clause-drawn
returns-in-Some-clause-drawn c = drawn _ _ c.args.mask.now _ _ c.self.view_is c.draw_by_mode.ensures.drawn c.requires.covered
