use Rattle.lanes.proofs.Given.{source_drawn}
use Rattle.lanes.proofs.drawing.draw_depths.Goals as goal

pub returns-clause-drawn : goal.returns-clause-drawn
returns-clause-drawn c = source_drawn _ _ _ _ c.args.mask.now _ _ c.depth.ensures c.colour.ensures c.draw_planes_depths.ensures.drawn
