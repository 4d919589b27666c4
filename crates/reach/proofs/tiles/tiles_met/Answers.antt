use Rattle.std.proofs.Common.{◌≤ℤ◌, ◌<ℤ◌, pos, to_z, of_z, w32, arith}
use Rattle.std.proofs.lemmas.Int.{ints}
use Rattle.cover.specs.Bounds.{HoldsCovered}
use Rattle.reach.proofs.tiles.tiles_met.Goals as goal

pub returns-clause-all : goal.returns-clause-all
returns-clause-all c = λ count i j s m.
    let covering : HoldsCovered c.args.triangle.now.tri c.bounds.result = rw c.requires at c.bounds.ensures.covering in
    let box = covering count i j s m.column m.row m.is_sample m.meets.covered in
    let rect = (c.overlap-rect.ensures i j).1 (box, m.meets.in_scissor) in
    let left : to_z w32 (of_z w32 c.overlap-rect.result.x0) ≤ℤ pos i = omega (arith, ints, rect.left) in
    let right : pos i <ℤ to_z w32 (of_z w32 c.overlap-rect.result.x1) = omega (arith, ints, rect.right) in
    let top : to_z w32 (of_z w32 c.overlap-rect.result.y0) ≤ℤ pos j = omega (arith, ints, rect.top) in
    let bottom : pos j <ℤ to_z w32 (of_z w32 c.overlap-rect.result.y1) = omega (arith, ints, rect.bottom) in
    (c.with_pixels-columns.ensures.all i m.column left right, c.with_pixels-rows.ensures.all j m.row top bottom)
