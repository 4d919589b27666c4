use Rattle.std.proofs.Common.{◌≡◌, ◌+◌, ◌-◌, ◌<◌, ◌≤◌, ◌-ℤ◌}
use Rattle.polygons.specs.Crossing.{winding}
use Rattle.polygons.specs.Polygon.{path_edges, path_end}
use Rattle.polygons.specs.Plotting.{ArePlotted}
use Rattle.polygons.specs.Rings.{corners_between}
use Rattle.polygons.specs.Runs.{corner_at}
use Rattle.polygons.proofs.plot.plot_runs.Given as goal

abbrev pub invariant-loop-next : goal.invariant-loop-next
invariant-loop-next g l = record {
  first : l.begin < l.next;
  last : l.next ≤ l.end;
  from : l.from ≡ corner_at l.rings.corners.now (l.next - 1);
  plotted : ArePlotted l.starts.strip (λ p. winding (path_edges (corner_at l.rings.corners.now l.begin) (corners_between l.rings.corners.now (l.begin + 1) l.end)) p -ℤ winding (path_edges l.from (corners_between l.rings.corners.now l.next l.end)) p) l.initial.cells l.cells;
  path : path_end (corner_at l.rings.corners.now l.begin) (corners_between l.rings.corners.now (l.begin + 1) l.end) ≡ path_end l.from (corners_between l.rings.corners.now l.next l.end);
}

abbrev pub decreases-loop-next : goal.decreases-loop-next
decreases-loop-next g l = l.end - l.next
