use Rattle.std.proofs.Common.{arith}
use Rattle.std.proofs.lemmas.Int.{ints, clamps}
use Rattle.polygons.proofs.extent.Extent.joined.Goals as goal

pub returns-clause-first : goal.returns-clause-first
returns-clause-first c p h = record {
  left = omega (arith, ints, clamps, c.min.ensures.value, h.left);
  right = omega (arith, ints, clamps, c.max.ensures.value, h.right);
  top = omega (arith, ints, clamps, c.min-2.ensures.value, h.top);
  bottom = omega (arith, ints, clamps, c.max-2.ensures.value, h.bottom);
}

pub returns-clause-second : goal.returns-clause-second
returns-clause-second c p h = record {
  left = omega (arith, ints, clamps, c.min.ensures.value, h.left);
  right = omega (arith, ints, clamps, c.max.ensures.value, h.right);
  top = omega (arith, ints, clamps, c.min-2.ensures.value, h.top);
  bottom = omega (arith, ints, clamps, c.max-2.ensures.value, h.bottom);
}
