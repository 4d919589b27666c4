use Rattle.std.proofs.Common.{◌≡◌, ◌≤◌, take}
use Rattle.polygons.specs.Crossing.{downs, ups}
use Rattle.polygons.proofs.crossings.count_edges.Given as goal

abbrev pub invariant-loop-edge : goal.invariant-loop-edge
invariant-loop-edge l =
    (l.counts.downs ≡ downs (take l.edge-index l.edges) l.p)
    × (l.counts.ups ≡ ups (take l.edge-index l.edges) l.p)
    × (l.counts.downs ≤ l.edge-index)
    × (l.counts.ups ≤ l.edge-index)
