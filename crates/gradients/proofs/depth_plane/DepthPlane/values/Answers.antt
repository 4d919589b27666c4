use Rattle.std.proofs.Common.{w32}
use Rattle.std.proofs.lemmas.Int.{to_z-of_z}
use Rattle.gradients.proofs.depth_plane.DepthPlane.values.Goals as goal

pub returns-clause-values : goal.returns-clause-values
returns-clause-values c i plane less covered = (rw (to_z-of_z w32 c.args.x c.ranges.x, to_z-of_z w32 c.args.y c.ranges.y) at c.values.ensures.each) plane i less covered
