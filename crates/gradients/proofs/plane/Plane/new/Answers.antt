use Rattle.std.proofs.Common.{inl, inr, rules, FitsSigned, w32, w64}
use Rattle.std.proofs.lemmas.Int.{to_z-of_z}
use Rattle.gradients.specs.Plane.{IsMargin}
use Rattle.gradients.proofs.FixedPoint.{plane_of}
use Rattle.gradients.proofs.plane.Plane.new.Goals as goal

pub returns : goal.returns
returns c =
    let s = c.args.slope in
    let x : FitsSigned w32 s.x = search rules in
    let y : FitsSigned w32 s.y = search rules in
    let across : FitsSigned w64 s.across = search rules in
    let down : FitsSigned w64 s.down = search rules in
    let a : FitsSigned w64 c.gradient-across.result.value = search rules in
    let d : FitsSigned w64 c.gradient-down.result.value = search rules in
    let exact_across = rw (to_z-of_z w64 s.across across) at c.gradient-across.ensures.exact in
    let exact_down = rw (to_z-of_z w64 s.down down) at c.gradient-down.ensures.exact in
    let margin : IsMargin c.args.bits c.args.reciprocal.area s c.gradient-across.result.value c.gradient-down.result.value c.margin.result =
    elim c.margin.ensures [
      | inl above ↦ inl above
      | inr above ↦ inr (above.0, exact_across above.1, exact_down above.2)
    ] in
    plane_of c.args.bits c.args.reciprocal.area s _ _ c.from.result _ _ x y across down a d c.scaled.type_inv c.scaled-2.type_inv c.from.ensures c.gradient-across.ensures.value c.gradient-down.ensures.value c.scaled.ensures c.scaled-2.ensures c.margin.result margin
