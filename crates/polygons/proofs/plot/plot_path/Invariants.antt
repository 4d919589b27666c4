use Rattle.std.proofs.Common.{◌≡◌, map, drop, ◌-ℤ◌}
use Rattle.polygons.specs.Crossing.{winding}
use Rattle.polygons.specs.Polygon.{path_edges, path_end}
use Rattle.polygons.specs.Plotting.{ArePlotted}
use Rattle.polygons.specs.Rings.{position_of}
use Rattle.polygons.proofs.plot.plot_path.Given as goal

abbrev pub invariant-loop-corner : goal.invariant-loop-corner
invariant-loop-corner g l = record {
  plotted : ArePlotted l.starts.strip (λ p. winding (path_edges l.fn.from (map position_of l.corners)) p -ℤ winding (path_edges l.from (drop l.corner-index (map position_of l.corners))) p) l.initial.cells l.cells;
  end : path_end l.fn.from (map position_of l.corners) ≡ path_end l.from (drop l.corner-index (map position_of l.corners));
}
