-- The vertices and triangles of a batch, as seen from the corner of pixel (x, y) of the screen.
use Rattle.std.specs.Prelude.{ℕ, Bool, ℤ, pos, ◌<◌, Option, List, length, map, slice_index_or}
use Rattle.std.specs.List.{All, flat_map}
use Rattle.grid.specs.Position.{IsInGuardBand}
use Rattle.shade.specs.declared.placed.Placed.{Placed}
use Rattle.draw_list.specs.declared.draw.Vertex.{Vertex}
use Rattle.draw_list.specs.Listing.{placed_all}
use Rattle.batch.specs.declared.draw.BatchDraw.{BatchDraw}
use Rattle.batch.specs.declared.vertex.BatchVertex.{BatchVertex}
use Rattle.batch.specs.Listed.{vertex_listed, draws_listed, draws_of}
use Rattle.batch.specs.Ranges.{IsVertexInRange}
use Rattle.canvas.specs.Window.{moved_position, moved}

-- The vertex of this index; past the end one of zeros, which no triangle of a batch names.
abbrev pub vertex_at : List BatchVertex → ℕ → BatchVertex
vertex_at vertices k = slice_index_or vertices k (record { x = pos 0; y = pos 0; depth = 0; red = 0; green = 0; blue = 0; alpha = 0; unused = 0 })

-- The vertex is in the guard band, and also as it is seen.
pub record CanBeSeen (x y : ℤ) (v : BatchVertex) : Type 0 where
  pub in_range : IsVertexInRange v
  pub in_band : IsInGuardBand (moved_position x y (record { x = v.x; y = v.y }))

-- Each vertex that an index names is in the guard band, and also as it is seen.
abbrev pub AreSeen : ℤ → ℤ → List BatchVertex → List ℕ → Type 0
AreSeen x y vertices indices = All (λ k. CanBeSeen x y (vertex_at vertices k)) indices

-- Each of these indices names a vertex, which can be seen.
pub record NameSeenVertices (x y : ℤ) (vertices : List BatchVertex) (indices : List ℕ) : Type 0 where
  pub named : All (λ k. k < length vertices) indices
  pub seen : AreSeen x y vertices indices

-- The vertex as it is seen.
abbrev pub vertex_seen : ℤ → ℤ → BatchVertex → Vertex
vertex_seen x y v = record (vertex_listed v) { at = moved_position x y (record { x = v.x; y = v.y }) }

-- The triangles of draws in draw order, as a draw list has them, seen from the corner of pixel (x, y).
abbrev pub draws_seen : Bool → ℤ → ℤ → List BatchDraw → List BatchVertex → Option (List ℕ) → List Placed
draws_seen has_alpha x y draws vertices indices = map (moved x y) (flat_map placed_all (draws_listed has_alpha draws vertices indices))

-- The triangles of a batch on a canvas that has alpha or not.
abbrev pub triangles_seen : Bool → ℤ → ℤ → List BatchDraw → List BatchVertex → Option (List ℕ) → List Placed
triangles_seen has_alpha x y draws vertices indices = draws_seen has_alpha x y (draws_of draws vertices indices) vertices indices
