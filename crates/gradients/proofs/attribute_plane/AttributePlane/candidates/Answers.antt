use Rattle.std.proofs.Common.{w32}
use Rattle.std.proofs.lemmas.Int.{to_z-of_z}
use Rattle.gradients.proofs.AttributePlanes.{candidates_are}
use Rattle.gradients.proofs.attribute_plane.AttributePlane.candidates.Goals as goal

pub returns-clause-each : goal.returns-clause-each
returns-clause-each c k a b c' values is =
    let high = rw (to_z-of_z w32 c.args.x c.ranges.x, to_z-of_z w32 c.args.y c.ranges.y) at c.height.ensures in
    candidates_are k a b c' (record { x = c.args.x; y = c.args.y }) values c.args.self.now c.height.result c.candidates.result is c.requires high c.candidates.ensures.each
