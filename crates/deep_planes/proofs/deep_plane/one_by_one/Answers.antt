use Rattle.deep_planes.proofs.Groups.{one_more}
use Rattle.deep_planes.proofs.deep_plane.one_by_one.Goals as goal

pub loop-lane-preserved : goal.loop-lane-preserved
loop-lane-preserved c =
    one_more _ _ _ _ c.args.z c.loop-lane.depths c.loop-lane.lane c.depth_if_covered.result c.loop-lane-test.true c.loop-lane.invariant c.depth_if_covered.ensures.bits (rw c.lane_point.ensures at c.depth_if_covered.ensures.depth)
