-- Runs of a polygon's corners, and the box of each.
use Rattle.std.specs.Prelude.{◌≡◌, ℕ, ◌+◌, ◌*◌, ◌<◌, ◌≤◌, pos, List, slice_index_or}
use Rattle.grid.specs.Position.{Position}
use Rattle.polygons.specs.declared.corner.Corner.{Corner}
use Rattle.polygons.specs.declared.extent.Extent.{Extent}
use Rattle.polygons.specs.declared.rings.Rings.{Rings}
use Rattle.polygons.specs.declared.runs.Runs.{Runs}
use Rattle.polygons.specs.Crossing.{winding}
use Rattle.polygons.specs.Polygon.{path_edges, path_end}
use Rattle.polygons.specs.Rows.{direction}
use Rattle.polygons.specs.Rings.{position_of, end_of, IsInClosedExtent}

-- Where corner i lies.
abbrev pub corner_at : List Corner → ℕ → Position
corner_at corners i = position_of (slice_index_or corners i (record { x = pos 0; y = pos 0 }))

-- The path from a corner through others winds around p as the edge from its first corner to its last one does.
abbrev pub IsCrossedAsChord : Position → List Position → Position → Type 0
IsCrossedAsChord a corners p = winding (path_edges a corners) p ≡ direction (record { a = a; b = path_end a corners }) p

-- The box of a run.
abbrev pub box_of : Runs → ℕ → Extent
box_of runs run = slice_index_or runs.boxes run (record { left = pos 0; top = pos 0; right = pos 0; bottom = pos 0 })

-- Each box holds the corners of its run and the one behind it. So it holds both ends of each edge that begins in the run and is not a
-- ring's last one.
abbrev pub AreRunsOf : Runs → Rings → Type 0
AreRunsOf runs rings =
    (run i : ℕ) → run < runs.count → rings.start + run * runs.length ≤ i → i ≤ rings.start + (run + 1) * runs.length → i < end_of rings.start rings.ends.now
    → IsInClosedExtent (box_of runs run) (corner_at rings.corners.now i)
