use Rattle.std.proofs.Common.{take}
use Rattle.polygons.specs.Rings.{AreCornersInBand}
use Rattle.polygons.proofs.arrays.first_outside.Given as goal

abbrev pub invariant-loop-k : goal.invariant-loop-k
invariant-loop-k l = AreCornersInBand (take l.k l.corners)
