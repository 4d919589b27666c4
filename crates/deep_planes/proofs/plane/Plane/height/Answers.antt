use Rattle.gradients.proofs.FixedPoint.{height_of}
use Rattle.deep_planes.proofs.plane.Plane.height.Goals as goal

pub returns : goal.returns
returns c = height_of c.args.x c.args.y _ _ _ _ c.ranges.x c.ranges.y c.part.ensures
