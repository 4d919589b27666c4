use Rattle.std.proofs.Common.{rules, FitsSigned, w32, w64}
use Rattle.deep_planes.proofs.Planes.{plane_of}
use Rattle.deep_planes.proofs.plane.Plane.of_depth.Goals as goal

pub returns : goal.returns
returns c =
    let s = c.args.slope in
    let x : FitsSigned w32 s.x = search rules in
    let y : FitsSigned w32 s.y = search rules in
    let across : FitsSigned w64 s.across = search rules in
    let down : FitsSigned w64 s.down = search rules in
    let a : FitsSigned w64 c.gradient-across.result = search rules in
    let d : FitsSigned w64 c.gradient-down.result = search rules in
    plane_of s _ _ c.from.result _ _ x y across down a d c.scaled.type_inv c.scaled-2.type_inv c.from.ensures c.gradient-across.ensures c.gradient-down.ensures c.scaled.ensures c.scaled-2.ensures
