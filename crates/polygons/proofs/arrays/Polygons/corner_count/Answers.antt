use Rattle.std.proofs.Common.{◌+◌, arith}
use Rattle.polygons.proofs.BoxesOfPolygons.{corners_rise}
use Rattle.polygons.proofs.arrays.Polygons.corner_count.Goals as goal

pub overflow_sub-result : goal.overflow_sub-result
overflow_sub-result c =
    let p = c.args.self.now in
    let number = c.args.number in
    let rises = corners_rise p.corners.now p.ring_ends.now p.polygon_ends.now p.checked.rings p.checked.polygons number (number + 1) (omega arith) (omega (arith, c.requires)) in
    omega (arith, rises, c.first_corner-first.ensures, c.first_corner.ensures)
