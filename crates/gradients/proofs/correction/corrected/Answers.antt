use Rattle.std.proofs.Common.{ℕ, w32}
use Rattle.std.proofs.lemmas.Int.{to_z-of_z}
use Rattle.std.specs.Int.RustNames.{unsigned_abs}
use Rattle.grid.specs.Position.{Position}
use Rattle.grid.specs.Triangle.{doubled_area}
use Rattle.gradients.specs.Group.{position_in}
use Rattle.gradients.specs.AttributePlane.{sum_at}
use Rattle.gradients.proofs.AttributePlanes.{sum_modulo}
use Rattle.gradients.proofs.correction.corrected.Goals as goal

pub returns-clause-each : goal.returns-clause-each
returns-clause-each c near i l covered =
    let t = c.args.t.now in
    let p : Position = position_in (record { x = c.args.x; y = c.args.y }) i in
    let n : ℕ = sum_at t.a t.b t.c c.args.values p in
    let same = c.area_of-area.ensures.value in
    let high = rw (to_z-of_z w32 c.args.x c.ranges.x, to_z-of_z w32 c.args.y c.ranges.y) at (c.heights.ensures.each i l) in
    let whole = sum_modulo t.a t.b t.c p c.args.values c.of.result c.of_numerator-numerator.result _ c.of.ensures (rw same at c.of_numerator-numerator.ensures) covered high in
    let rest = rw same at (c.rests.ensures.each i n l whole) in
    c.lowered.ensures.each i n (unsigned_abs (doubled_area t.a t.b t.c)) l (rw same at c.area_of-area.ensures.size) (near i l covered) rest
