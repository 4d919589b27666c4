use Rattle.std.proofs.Common.{◌≡◌, ℕ, ◌<◌, length}
use Rattle.std.specs.List.{All}
use Rattle.polygons.specs.Arrays.{box_at, polygon_corners, first_corner, KeepsBoxesFrom}
use Rattle.polygons.specs.Rings.{corners_between, IsInClosedExtent, IsLeastExtent}
use Rattle.polygons.proofs.arrays.measure.Given as goal

abbrev pub invariant-loop-polygon : goal.invariant-loop-polygon
invariant-loop-polygon l = record {
  corner : l.corner ≡ first_corner l.ring_ends l.polygon_ends l.polygon;
  least : (k : ℕ) → k < l.polygon → IsLeastExtent (box_at l.boxes k) (polygon_corners l.corners l.ring_ends l.polygon_ends k);
  behind : KeepsBoxesFrom (length l.polygon_ends) l.fn.boxes l.boxes;
  all : All (IsInClosedExtent l.all) (corners_between l.corners 0 l.corner);
}
