use Rattle.std.proofs.Common.{w32}
use Rattle.std.proofs.lemmas.Int.{to_z-of_z}
use Rattle.gradients.proofs.colour_planes.ColourPlanes.channels.Goals as goal

pub returns-clause-red : goal.returns-clause-red
returns-clause-red c i writes planes less covered = (rw (to_z-of_z w32 c.args.x c.ranges.x, to_z-of_z w32 c.args.y c.ranges.y) at c.channel_at.ensures.each) writes (planes.of_red writes) i less covered

pub returns-clause-green : goal.returns-clause-green
returns-clause-green c i writes planes less covered = (rw (to_z-of_z w32 c.args.x c.ranges.x, to_z-of_z w32 c.args.y c.ranges.y) at c.channel_at-2.ensures.each) writes (planes.of_green writes) i less covered

pub returns-clause-blue : goal.returns-clause-blue
returns-clause-blue c i writes planes less covered = (rw (to_z-of_z w32 c.args.x c.ranges.x, to_z-of_z w32 c.args.y c.ranges.y) at c.channel_at-3.ensures.each) writes (planes.of_blue writes) i less covered

pub returns-clause-alpha : goal.returns-clause-alpha
returns-clause-alpha c i reads planes less covered = (rw (to_z-of_z w32 c.args.x c.ranges.x, to_z-of_z w32 c.args.y c.ranges.y) at c.channel_at-4.ensures.each) (c.reads_alpha.ensures.1 reads) (planes.of_alpha reads) i less covered
