use Rattle.std.proofs.Common.{ap, arith, map, drop, ◌+◌, List}
use Rattle.grid.specs.Position.{Position}
use Rattle.polygons.specs.Crossing.{downs, ups}
use Rattle.polygons.specs.Polygon.{polygon_edges, corner_count}
use Rattle.polygons.proofs.Corners.{winding-corner}
use Rattle.polygons.proofs.Cuts.{inside_alike}
use Rattle.polygons.proofs.Counts.{rings_from, downs-ring, ups-ring, corners-ring, downs-ring-le, ups-ring-le}
use Rattle.polygons.proofs.polygon.polygon_covers.Goals as goal

pub loop-ring-preserved : goal.loop-ring-preserved
loop-ring-preserved c =
    let ring = c.ring-item.result.now in
    let i = c.loop-ring.ring-index in
    let p = c.args.p in
    let rest : List (List Position) = map (λ x. x.now) (drop (i + 1) c.args.rings.now) in
    let is = rings_from c.args.rings.now i c.ring-item.result c.loop-ring-test.true c.ring-item.is in
    let d = ap (λ rings. downs (polygon_edges rings) p) is in
    let u = ap (λ rings. ups (polygon_edges rings) p) is in
    let n = ap corner_count is in
    let dr = downs-ring ring rest p in
    let ur = ups-ring ring rest p in
    let cr = corners-ring ring rest in
    let dl = downs-ring-le ring p in
    let ul = ups-ring-le ring p in
    (omega arith, omega arith, omega arith, omega arith)

pub returns-clause-corner : goal.returns-clause-corner
returns-clause-corner c e q more h off =
    let rings : List (List Position) = map (λ x. x.now) c.args.rings.now in
    inside_alike c.args.rule (polygon_edges rings) (polygon_edges more) c.args.p (winding-corner e q rings more c.args.p h off)
