-- Runs of polygons in arrays, and the box of each run.
use Rattle.std.specs.Prelude.{ℕ, ◌/◌, ◌<◌, pos, List, length, slice_index_or}
use Rattle.polygons.specs.declared.corner.Corner.{Corner}
use Rattle.polygons.specs.declared.extent.Extent.{Extent}
use Rattle.polygons.specs.declared.polygon_runs.PolygonRuns.{PolygonRuns}
use Rattle.polygons.specs.Arrays.{rings_of}
use Rattle.polygons.specs.Polygon.{polygon_edges}
use Rattle.polygons.specs.Rings.{HoldsInside}

-- The box of the run of polygon k.
abbrev pub run_box : PolygonRuns → ℕ → Extent
run_box runs k = slice_index_or runs.boxes (k / runs.length) (record { left = pos 0; top = pos 0; right = pos 0; bottom = pos 0 })

-- By either rule no polygon has anything inside but in the box of its run.
abbrev pub HoldsPolygons : PolygonRuns → List Corner → List ℕ → List ℕ → Type 0
HoldsPolygons runs corners ring_ends polygon_ends =
    (k : ℕ) → k < length polygon_ends → HoldsInside (run_box runs k) (polygon_edges (rings_of corners ring_ends polygon_ends k))
