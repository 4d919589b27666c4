use Rattle.std.proofs.Common.{ap, arith, List, ◌<◌}
use Rattle.grid.specs.Position.{Position}
use Rattle.polygons.specs.Crossing.{winding}
use Rattle.polygons.specs.Polygon.{ring_edges}
use Rattle.polygons.specs.Rings.{end_of}
use Rattle.polygons.proofs.Plotted.{plotted_none, plotted_both}
use Rattle.polygons.proofs.RunBoxes.{between_none, ring_joined}
use Rattle.polygons.proofs.Seen.{corner_seen}
use Rattle.polygons.proofs.plot.plot_ring.Goals as goal

pub at-first-requires : goal.at-first-requires
at-first-requires g c =
    let rings = c.args.rings.now in
    let some : c.args.begin < c.args.end = omega (arith, c.if-begin-end.true) in
    corner_seen rings.corners.now rings.start (end_of rings.start rings.ends.now) rings.seen c.args.begin c.requires.first (omega (arith, some, c.requires.last)) (omega (arith, some, c.requires.within))

pub returns-then-begin-end : goal.returns-then-begin-end
returns-then-begin-end g c =
    plotted_both c.args.starts.now.strip _ _ _ _ _ _
    (ring_joined c.args.rings.now.corners.now c.args.begin c.args.end c.at-first.result c.plot_runs-last.result (omega (arith, c.if-begin-end.true)) c.requires.within c.at-first.ensures c.plot_runs-last.ensures.end)
    c.plot_runs-last.ensures.plotted c.plot_edge.ensures

pub returns-else-begin-end : goal.returns-else-begin-end
returns-else-begin-end g c =
    let none = between_none c.args.rings.now.corners.now c.args.begin c.args.end (omega (arith, c.if-begin-end.false)) in
    plotted_none c.args.starts.now.strip _ c.args.cells.now (λ p. ap (λ (ring : List Position). winding (ring_edges ring) p) none)
