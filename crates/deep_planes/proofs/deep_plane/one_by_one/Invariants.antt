use Rattle.deep_planes.proofs.Groups.{AreFound}
use Rattle.deep_planes.proofs.deep_plane.one_by_one.Given as goal

abbrev pub invariant-loop-lane : goal.invariant-loop-lane
invariant-loop-lane l = AreFound l.t.a l.t.b l.t.c (record { x = l.x; y = l.y }) l.z l.depths l.lane
