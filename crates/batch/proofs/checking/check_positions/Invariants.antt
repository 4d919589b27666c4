use Rattle.std.proofs.Common.{take}
use Rattle.batch.specs.Seen.{AreSeen}
use Rattle.batch.proofs.checking.check_positions.Given as goal

abbrev pub invariant-loop-place : goal.invariant-loop-place
invariant-loop-place g l = AreSeen l.origin.x l.origin.y (g.V.Vertices.listed l.vertices) (take l.place (g.I.Indices.listed l.indices))
