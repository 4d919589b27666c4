use Rattle.std.proofs.Common.{◌≡◌, ◌≤◌, ◌*◌, ◌%◌, ◌^◌, ℕ, w32, arith}
use Rattle.std.proofs.lemmas.Int.{to_z-of_z}
use Rattle.std.specs.Int.RustNames.{unsigned_abs}
use Rattle.grid.specs.Position.{Position}
use Rattle.grid.specs.Triangle.{doubled_area}
use Rattle.gradients.specs.Group.{position_in}
use Rattle.gradients.specs.AttributePlane.{sum_at}
use Rattle.deep_planes.proofs.Heights.{sum_modulo}
use Rattle.deep_planes.proofs.deep_plane.corrected.Goals as goal

pub returns-clause-depths : goal.returns-clause-depths
returns-clause-depths c near i l covered =
    let t = c.args.t.now in
    let s = c.of-slope.result in
    let p : Position = position_in (record { x = c.args.x; y = c.args.y }) i in
    let n : ℕ = sum_at t.a t.b t.c c.args.z p in
    let d : ℕ = 2 ^ 8 * unsigned_abs (doubled_area t.a t.b t.c) in
    let shifted : s.area * 2 ^ 8 % 2 ^ 64 ≡ d = omega (arith, c.of-slope.ensures.slope.bound, c.of-slope.ensures.slope.of_area) in
    let small : d ≤ 2 ^ 56 = omega (arith, c.of-slope.ensures.slope.bound, c.of-slope.ensures.slope.of_area) in
    let at = rw (to_z-of_z w32 c.args.x c.ranges.x, to_z-of_z w32 c.args.y c.ranges.y) at (c.heights-numerators.ensures.each i l) in
    let whole = sum_modulo t.a t.b t.c p c.args.z s c.of_numerator.result _ c.of-slope.ensures.slope c.of_numerator.ensures covered (rw c.of.ensures.same at at) in
    let rest = rw shifted at (c.rests.ensures.each i n l whole) in
    c.lowered.ensures.each i n d l small (near i l covered) rest
