use Rattle.std.proofs.Common.{◌≡◌, ◌∷◌, drop, slice_index, ◌-ℤ◌}
use Rattle.polygons.specs.Crossing.{winding}
use Rattle.polygons.specs.Polygon.{polygon_edges}
use Rattle.polygons.specs.Plotting.{ArePlotted}
use Rattle.polygons.specs.Rings.{rings_from}
use Rattle.polygons.proofs.plot.plot.Given as goal

abbrev pub invariant-loop-ring_end : goal.invariant-loop-ring_end
invariant-loop-ring_end g l = record {
  plotted : ArePlotted l.strip (λ p. winding (polygon_edges (rings_from l.rings.corners.now l.rings.start l.rings.ends.now)) p -ℤ winding (polygon_edges (rings_from l.rings.corners.now l.begin (drop l.ring_end-index l.rings.ends.now))) p) l.initial.cells l.cells;
  place : l.begin ≡ slice_index (l.rings.start ∷ l.rings.ends.now) l.ring_end-index;
}
