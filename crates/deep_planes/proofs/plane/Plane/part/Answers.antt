use Rattle.std.proofs.Common.{rules, FitsSigned, w64}
use Rattle.gradients.proofs.FixedPoint.{part_of}
use Rattle.deep_planes.proofs.plane.Plane.part.Goals as goal

pub returns : goal.returns
returns c =
    let across : FitsSigned w64 c.args.self.now.across = search rules in
    let down : FitsSigned w64 c.args.self.now.down = search rules in
    part_of c.args.x c.args.y _ _ _ _ c.ranges.x c.ranges.y across down c.scaled.ensures c.scaled-2.ensures
