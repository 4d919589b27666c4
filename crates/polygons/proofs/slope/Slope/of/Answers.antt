use Rattle.std.proofs.Common.{arith, ◌^◌, ℤ, pos, ◌-ℤ◌, ◌≤ℤ◌, ◌<ℤ◌}
use Rattle.std.proofs.lemmas.Int.{ints}
use Rattle.grid.specs.Bounds.{IsWithin}
use Rattle.grid.specs.Position.{IsInBand}
use Rattle.polygons.proofs.Exact.{within64, difference32}
use Rattle.polygons.proofs.slope.Slope.of.Goals as goal

pub divide_short-columns-requires-clause-by : goal.divide_short-columns-requires-clause-by
divide_short-columns-requires-clause-by c =
    let a = c.y.ensures in let b = c.y-2.ensures in let down = c.requires in
    let a' = a.in_band in let b' = b.in_band in
    omega (arith, ints, a.value, b.value)

pub divide_short-columns-requires-clause-small : goal.divide_short-columns-requires-clause-small
divide_short-columns-requires-clause-small c =
    let a' = c.y.ensures.in_band in let b' = c.y-2.ensures.in_band in
    omega (arith, ints)

pub divide_short-columns-requires-clause-number : goal.divide_short-columns-requires-clause-number
divide_short-columns-requires-clause-number c =
    let a' = c.x.ensures.in_band in let b' = c.x-2.ensures.in_band in
    record { low = omega (arith, ints); high = omega (arith, ints) }

small_part : (r u v : ℤ) → IsInBand u → IsInBand v → pos 0 ≤ℤ r → r <ℤ (u -ℤ v) → IsWithin (2 ^ 52) r
small_part r u v h k l m = record { low = omega (arith, ints); high = omega (arith, ints) }

wide : (z : ℤ) → IsWithin (2 ^ 25) z → IsWithin (2 ^ 52) z
wide z h = record { low = omega (arith, ints); high = omega (arith, ints) }

pub returns : goal.returns
returns c =
    let e = c.args.edge.now in
    let by = c.y.ensures in let ay = c.y-2.ensures in let bx = c.x.ensures in let ax = c.x-2.ensures in
    let d = c.divide_short-columns.ensures in
    let width = difference32 _ _ e.b.x e.a.x bx.in_band ax.in_band bx.value ax.value in
    let height = difference32 _ _ e.b.y e.a.y by.in_band ay.in_band by.value ay.value in
    let high = rw height at d.high in
    let q = within64 c.divide_short-columns.result.0 (wide _ d.size) in
    let r = within64 c.divide_short-columns.result.1 (small_part _ e.b.y e.a.y (rw by.value at by.in_band) (rw ay.value at ay.in_band) d.low high) in
    rw (q, r) (record { step = record { sum = rw (width, height) at d.sum; part_low = d.low; part_high = high }; size = d.size })
