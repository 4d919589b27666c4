-- The triangles of one draw.
use Rattle.std.specs.Prelude.{ℕ, List, map, slice_index}
use Rattle.shade.specs.declared.placed.Placed.{Placed}
use Rattle.shade.specs.declared.state.State.{State}
use Rattle.canvas.specs.declared.window.Origin.{Origin}
use Rattle.draw_list.specs.Primitives.{triangles_of}
use Rattle.draw_list.specs.declared.draw.Vertex.{Vertex}
use Rattle.draw_list.specs.Listing.{triangle_of}
use Rattle.batch.specs.Listed.{primitives_listed}
use Rattle.batch.specs.declared.vertex.BatchVertex.{BatchVertex}
use Rattle.batch.specs.Seen.{vertex_at, vertex_seen}

-- The triangle of the vertices with these indices, as it is seen from the origin.
abbrev pub seen_from : Origin → State → List BatchVertex → List ℕ → Placed
seen_from origin state vertices indices =
    let corner : ℕ → Vertex = λ i. vertex_seen origin.x origin.y (vertex_at vertices (slice_index indices i)) in
    triangle_of state (corner 0) (corner 1) (corner 2)

-- The triangles of primitives of this topology in draw order, as they are seen from the origin.
abbrev pub all_seen : Origin → State → ℕ → List BatchVertex → List ℕ → List Placed
all_seen origin state topology vertices indices = map (seen_from origin state vertices) (triangles_of (primitives_listed topology indices))
