use Rattle.std.proofs.Common.{take}
use Rattle.std.specs.List.{All}
use Rattle.batch.specs.Listed.{quads_of}
use Rattle.batch.specs.Checks.{IsQuadSeen}
use Rattle.batch.proofs.checking.check_each_quad.Given as goal

abbrev pub invariant-loop-number : goal.invariant-loop-number
invariant-loop-number g l = All (IsQuadSeen l.origin.x l.origin.y (g.V.Vertices.listed l.vertices)) (take l.number (quads_of (g.I.Indices.listed l.indices)))
