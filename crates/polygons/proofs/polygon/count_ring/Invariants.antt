-- What is counted, and what the path from here on adds, is what the ring adds.
use Rattle.std.proofs.Common.{◌≡◌, ◌+◌, ◌≤◌, [], ◌∷◌, ◌++◌, drop}
use Rattle.polygons.specs.Crossing.{downs, ups}
use Rattle.polygons.specs.Polygon.{path_edges}
use Rattle.polygons.proofs.polygon.count_ring.Given as goal

abbrev pub invariant-loop-to : goal.invariant-loop-to
invariant-loop-to l =
    (l.counts.downs + downs (path_edges l.from (drop l.to-index l.rest ++ l.first ∷ [])) l.p ≡ l.initial.counts.downs + downs (path_edges l.first (l.rest ++ l.first ∷ [])) l.p)
    × (l.counts.ups + ups (path_edges l.from (drop l.to-index l.rest ++ l.first ∷ [])) l.p ≡ l.initial.counts.ups + ups (path_edges l.first (l.rest ++ l.first ∷ [])) l.p)
    × (l.counts.downs ≤ l.initial.counts.downs + l.to-index)
    × (l.counts.ups ≤ l.initial.counts.ups + l.to-index)
