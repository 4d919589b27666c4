use Rattle.polygons.specs.Polygon.{polygon_edges}
use Rattle.polygons.specs.Rings.{rings_from}
use Rattle.polygons.proofs.Boxes.{holds_inside}
use Rattle.polygons.proofs.RingParts.{rings_outside}
use Rattle.polygons.proofs.rings.Rings.extent.Goals as goal

pub returns-clause-least : goal.returns-clause-least
returns-clause-least c = rw c.end.ensures.value at c.of.ensures

pub returns-clause-holds : goal.returns-clause-holds
returns-clause-holds c =
    let rings = c.args.self.now in
    holds_inside c.of.result (polygon_edges (rings_from rings.corners.now rings.start rings.ends.now)) (λ p out. rings_outside c.of.result rings.corners.now rings.start rings.ends.now _ p rings.rising (rw c.end.ensures.value at c.of.ensures.held) out)
