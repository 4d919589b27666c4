use Rattle.gradients.proofs.FixedPoint.{heights_of}
use Rattle.gradients.proofs.plane.Plane.heights.Goals as goal

pub returns-clause-each : goal.returns-clause-each
returns-clause-each c i l = heights_of c.args.self.now c.args.x c.args.y _ _ c.height.result c.parts.result i c.ranges.x c.ranges.y l c.parts.ensures.length c.height.ensures (c.parts.ensures.each i l)
