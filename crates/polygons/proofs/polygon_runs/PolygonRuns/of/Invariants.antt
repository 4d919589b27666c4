use Rattle.std.proofs.Common.{◌≡◌, ℕ, ◌*◌, ◌/◌, ◌<◌, length, min, pos, slice_index_or}
use Rattle.std.specs.List.{All}
use Rattle.polygons.specs.Arrays.{first_corner, rings_of}
use Rattle.polygons.specs.Rings.{HoldsInside, IsInClosedExtent, corners_between}
use Rattle.polygons.specs.Polygon.{polygon_edges}
use Rattle.polygons.proofs.polygon_runs.PolygonRuns.of.Given as goal

abbrev pub invariant-loop-run : goal.invariant-loop-run
invariant-loop-run l = record {
  many : length l.boxes ≡ 64;
  polygon : l.polygon ≡ min (l.run * l.length) (length l.polygon_ends);
  corner : l.corner ≡ first_corner l.ring_ends l.polygon_ends l.polygon;
  held : (k : ℕ) → k < l.polygon → HoldsInside (slice_index_or l.boxes (k / l.length) (record { left = pos 0; top = pos 0; right = pos 0; bottom = pos 0 })) (polygon_edges (rings_of l.corners l.ring_ends l.polygon_ends k));
  all : All (IsInClosedExtent l.all) (corners_between l.corners 0 l.corner);
}
