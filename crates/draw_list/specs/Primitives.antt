-- The primitives of a draw, and the triangles that they are.
use Rattle.std.specs.Prelude.{ℕ, ◌+◌, ◌-◌, ◌*◌, ◌%◌, ◌<◌, pos, List, [], ◌∷◌, map, length, slice_index, slice_index_or}
use Rattle.std.specs.List.{All, flat_map, range_with_len}
use Rattle.grid.specs.Position.{Position}
use Rattle.grid.specs.Quad.{IsStrictlyConvex}
use Rattle.draw_list.specs.declared.primitives.Primitives.{Primitives}
use Rattle.draw_list.specs.declared.primitives.Primitives.TheVariants.{Triangles, Strip, Quads}
use Rattle.draw_list.specs.declared.draw.Vertex.{Vertex}

-- Primitives by the indices of their vertices, wherever they lie in memory.
pub data PrimitiveListing : Type 0 where
  triangle_list : List (List ℕ) → PrimitiveListing
  triangle_strip : List ℕ → PrimitiveListing
  quad_list : List (List ℕ) → PrimitiveListing

-- The indices of triangle m of a strip: those at m, m + 1, m + 2 if m is even, and at m, m + 2, m + 1 if m is odd. So a strip keeps
-- its orientation (Vulkan 1.3, triangle strips).
abbrev pub strip_triangle : List ℕ → ℕ → List ℕ
strip_triangle indices m = slice_index indices m ∷ slice_index indices (m + 1 + m % 2) ∷ slice_index indices (m + 2 - m % 2) ∷ []

-- How many triangles a strip of this many indices has.
abbrev pub strip_count : ℕ → ℕ
strip_count indices = indices - 2

-- The quad abcd is drawn as the two triangles on either side of its diagonal ac: abc, and then cda.
abbrev pub quad_triangles : List ℕ → List (List ℕ)
quad_triangles quad =
    (slice_index quad 0 ∷ slice_index quad 1 ∷ slice_index quad 2 ∷ []) ∷ (slice_index quad 2 ∷ slice_index quad 3 ∷ slice_index quad 0 ∷ []) ∷ []

-- How many triangles this many quads have.
abbrev pub quads_count : ℕ → ℕ
quads_count quads = 2 * quads

-- The triangles of primitives in draw order, each by the indices of its vertices.
abbrev pub triangles_of : PrimitiveListing → List (List ℕ)
triangles_of (triangle_list triangles) = triangles
triangles_of (triangle_strip indices) = map (strip_triangle indices) (range_with_len 0 (strip_count (length indices)))
triangles_of (quad_list quads) = flat_map quad_triangles quads

-- How many triangles primitives are.
abbrev pub count_of_triangles : PrimitiveListing → ℕ
count_of_triangles (triangle_list triangles) = length triangles
count_of_triangles (triangle_strip indices) = strip_count (length indices)
count_of_triangles (quad_list quads) = quads_count (length quads)

-- The position of the vertex of this index; the origin past the end.
abbrev pub vertex_position : List Vertex → ℕ → Position
vertex_position vertices k = slice_index_or (map (λ v. v.at) vertices) k (record { x = pos 0; y = pos 0 })

-- The vertices that a quad names are the corners of a strictly convex quad, in its order.
abbrev pub IsConvexOver : List Vertex → List ℕ → Type 0
IsConvexOver vertices quad =
    let corner : ℕ → Position = λ i. vertex_position vertices (slice_index quad i) in
    IsStrictlyConvex (corner 0) (corner 1) (corner 2) (corner 3)

-- The quad names four of the vertices, and is strictly convex.
pub record IsQuadOver (vertices : List Vertex) (quad : List ℕ) : Type 0 where
  pub indices : All (λ k. k < length vertices) quad
  pub convex : IsConvexOver vertices quad

-- Primitives over these vertices: each names vertices that there are, and each quad is strictly convex.
abbrev pub AreOver : List Vertex → PrimitiveListing → Type 0
AreOver vertices (triangle_list triangles) = All (λ triangle. All (λ k. k < length vertices) triangle) triangles
AreOver vertices (triangle_strip indices) = All (λ k. k < length vertices) indices
AreOver vertices (quad_list quads) = All (IsQuadOver vertices) quads

-- The listing of primitives in memory.
abbrev pub primitive_listing : Primitives → PrimitiveListing
primitive_listing (Triangles triangles) = triangle_list triangles.items
primitive_listing (Strip indices) = triangle_strip indices.items
primitive_listing (Quads quads) = quad_list quads.items
