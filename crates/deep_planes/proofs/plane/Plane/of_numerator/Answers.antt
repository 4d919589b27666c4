use Rattle.std.proofs.Common.{rules, FitsSigned, w32, w64}
use Rattle.gradients.specs.declared.slope.Slope as gradients
use Rattle.gradients.proofs.FixedPoint.{numerator_of}
use Rattle.deep_planes.proofs.plane.Plane.of_numerator.Goals as goal

pub returns : goal.returns
returns c =
    let s = c.args.slope in
    let x : FitsSigned w32 s.x = search rules in
    let y : FitsSigned w32 s.y = search rules in
    let across : FitsSigned w64 s.across = search rules in
    let down : FitsSigned w64 s.down = search rules in
    let q : gradients.Slope = record { first = s.first; x = s.x; y = s.y; across = s.across; down = s.down } in
    let is = numerator_of s.area q c.from.result _ _ x y across down c.scaled.type_inv c.scaled-2.type_inv c.from.ensures c.scaled.ensures c.scaled-2.ensures in
    record { across = is.across; down = is.down; start = is.start }
