use Rattle.std.proofs.Common.{ap, arith}
use Rattle.std.proofs.lemmas.Int.{ints, clamps}
use Rattle.polygons.specs.declared.extent.Extent.{Extent}
use Rattle.polygons.proofs.extent.Extent.with.Goals as goal

pub returns-clause-corner : goal.returns-clause-corner
returns-clause-corner c = record {
  left = omega (arith, ints, clamps, c.min.ensures.value);
  right = omega (arith, ints, clamps, c.max.ensures.value);
  top = omega (arith, ints, clamps, c.min-2.ensures.value);
  bottom = omega (arith, ints, clamps, c.max-2.ensures.value);
}

pub returns-clause-others : goal.returns-clause-others
returns-clause-others c p h = record {
  left = omega (arith, ints, clamps, c.min.ensures.value, h.left);
  right = omega (arith, ints, clamps, c.max.ensures.value, h.right);
  top = omega (arith, ints, clamps, c.min-2.ensures.value, h.top);
  bottom = omega (arith, ints, clamps, c.max-2.ensures.value, h.bottom);
}

pub returns-clause-first : goal.returns-clause-first
returns-clause-first c same f h =
    let formed = c.well_formed in
    let left = ap (λ (e : Extent). e.left) same in
    let right = ap (λ (e : Extent). e.right) same in
    let top = ap (λ (e : Extent). e.top) same in
    let bottom = ap (λ (e : Extent). e.bottom) same in
    record {
      left = omega (arith, ints, clamps, formed, left, c.min.ensures.value, h.left);
      right = omega (arith, ints, clamps, formed, right, c.max.ensures.value, h.right);
      top = omega (arith, ints, clamps, formed, top, c.min-2.ensures.value, h.top);
      bottom = omega (arith, ints, clamps, formed, bottom, c.max-2.ensures.value, h.bottom);
    }

pub returns-clause-least : goal.returns-clause-least
returns-clause-least c f w h = record {
  left = omega (arith, ints, clamps, c.min.ensures.value, h.left, w.left);
  right = omega (arith, ints, clamps, c.max.ensures.value, h.right, w.right);
  top = omega (arith, ints, clamps, c.min-2.ensures.value, h.top, w.top);
  bottom = omega (arith, ints, clamps, c.max-2.ensures.value, h.bottom, w.bottom);
}
