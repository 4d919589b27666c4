use Rattle.std.proofs.Common.{◌+◌, arith, rules, ◌≡◌, ◌<◌, subst, length}
use Rattle.polygons.specs.declared.extent.Extent.{Extent}
use Rattle.polygons.specs.Arrays.{box_at, rings_of}
use Rattle.polygons.specs.Polygon.{polygon_edges}
use Rattle.polygons.specs.Rings.{HoldsInside}
use Rattle.polygons.proofs.BoxesOfPolygons.{polygon_held}
use Rattle.polygons.proofs.arrays.Polygons.run_of.Goals as goal

pub returns-clause-holds : goal.returns-clause-holds
returns-clause-holds c fit k l m =
    let p = c.args.self.now in
    subst (λ (box : Extent). HoldsInside box (polygon_edges (rings_of p.corners.now p.ring_ends.now p.polygon_ends.now k))) (c.run_of-behind.ensures.same k l (omega (arith, m, c.min.ensures)))
    (p.held (search rules) k (omega (arith, m, c.min.ensures)))

pub returns-then-not-is_empty-clause-holds : goal.returns-then-not-is_empty-clause-holds
returns-then-not-is_empty-clause-holds c fit k l m =
    let p = c.args.self.now in
    let number = c.args.number in
    let some : 0 < length p.boxes.now = search rules in
    let here : k ≡ number = omega (arith, l, m) in
    let boxes = fit some in
    rw here (polygon_held p.corners.now p.ring_ends.now p.polygon_ends.now p.checked.rings p.checked.polygons (box_at p.boxes.now number) number number (number + 1) (omega arith) (omega arith) (omega (arith, c.requires)) (boxes.held number c.requires))
