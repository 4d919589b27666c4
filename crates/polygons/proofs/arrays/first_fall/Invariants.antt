use Rattle.std.proofs.Common.{◌≡◌, take}
use Rattle.polygons.specs.Rings.{AreAscendingEnds}
use Rattle.polygons.specs.Arrays.{begin_of}
use Rattle.polygons.proofs.arrays.first_fall.Given as goal

abbrev pub invariant-loop-k : goal.invariant-loop-k
invariant-loop-k l = record {
  begins : l.begin ≡ begin_of l.ends l.k;
  rising : AreAscendingEnds 0 (take l.k l.ends) l.whole;
}
