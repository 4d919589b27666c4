use Rattle.gradients.specs.declared.plane.Plane as gradients
use Rattle.gradients.proofs.FixedPoint.{heights_of}
use Rattle.deep_planes.proofs.lane_plane.LanePlane.heights.Goals as goal

pub returns-clause-each : goal.returns-clause-each
returns-clause-each c i l =
    let p = c.args.self.now.plane in
    let q : gradients.Plane = record { start = p.start; across = p.across; down = p.down } in
    heights_of q c.args.x c.args.y _ _ c.height.result c.args.self.now.lanes i c.ranges.x c.ranges.y l c.requires.long c.height.ensures (c.requires.each i l)
