-- What is counted, and what the rings from here on add, is what all rings add.
use Rattle.std.proofs.Common.{◌≡◌, ◌+◌, ◌≤◌, drop, map}
use Rattle.polygons.specs.Crossing.{downs, ups}
use Rattle.polygons.specs.Polygon.{polygon_edges, corner_count}
use Rattle.polygons.proofs.polygon.polygon_covers.Given as goal

abbrev pub invariant-loop-ring : goal.invariant-loop-ring
invariant-loop-ring l =
    (l.counts.downs + downs (polygon_edges (map (λ r. r.now) (drop l.ring-index l.rings))) l.p ≡ downs (polygon_edges (map (λ r. r.now) l.rings)) l.p)
    × (l.counts.ups + ups (polygon_edges (map (λ r. r.now) (drop l.ring-index l.rings))) l.p ≡ ups (polygon_edges (map (λ r. r.now) l.rings)) l.p)
    × (l.counts.downs + corner_count (map (λ r. r.now) (drop l.ring-index l.rings)) ≤ corner_count (map (λ r. r.now) l.rings))
    × (l.counts.ups + corner_count (map (λ r. r.now) (drop l.ring-index l.rings)) ≤ corner_count (map (λ r. r.now) l.rings))
