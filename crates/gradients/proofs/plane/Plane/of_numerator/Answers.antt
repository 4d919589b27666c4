use Rattle.std.proofs.Common.{rules, FitsSigned, w32, w64}
use Rattle.gradients.proofs.FixedPoint.{numerator_of}
use Rattle.gradients.proofs.plane.Plane.of_numerator.Goals as goal

pub returns : goal.returns
returns c =
    let s = c.args.slope in
    let x : FitsSigned w32 s.x = search rules in
    let y : FitsSigned w32 s.y = search rules in
    let across : FitsSigned w64 s.across = search rules in
    let down : FitsSigned w64 s.down = search rules in
    numerator_of c.args.area s c.from.result _ _ x y across down c.scaled.type_inv c.scaled-2.type_inv c.from.ensures c.scaled.ensures c.scaled-2.ensures
