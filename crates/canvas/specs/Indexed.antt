-- Triangles by the indices of their vertices in a list.
use Rattle.std.specs.Prelude.{ℕ, ◌<◌, List, [], ◌∷◌, pos, slice_index, slice_index_or}
use Rattle.shade.specs.declared.placed.Placed.{Placed}
use Rattle.shade.specs.declared.state.State.{State}
use Rattle.canvas.specs.declared.vertex.Vertex.{Vertex}

-- The first three indices are indices of vertices, of which there are `many`.
pub record AreIndices (many : ℕ) (indices : List ℕ) : Type 0 where
  pub first : slice_index indices 0 < many
  pub second : slice_index indices 1 < many
  pub third : slice_index indices 2 < many

-- The vertex of index k; past the end one at the origin, without a colour.
abbrev pub indexed_vertex : List Vertex → ℕ → Vertex
indexed_vertex vertices k = slice_index_or vertices k (record { position = record { x = pos 0; y = pos 0 }; z = 0; rgba = [] })

-- The triangle whose vertices have these three indices, in this state.
abbrev pub placed_by : List Vertex → State → List ℕ → Placed
placed_by vertices state indices = record {
  tri = record { a = (indexed_vertex vertices (slice_index indices 0)).position; b = (indexed_vertex vertices (slice_index indices 1)).position; c = (indexed_vertex vertices (slice_index indices 2)).position };
  z = (indexed_vertex vertices (slice_index indices 0)).z ∷ (indexed_vertex vertices (slice_index indices 1)).z ∷ (indexed_vertex vertices (slice_index indices 2)).z ∷ [];
  rgba = (indexed_vertex vertices (slice_index indices 0)).rgba ∷ (indexed_vertex vertices (slice_index indices 1)).rgba ∷ (indexed_vertex vertices (slice_index indices 2)).rgba ∷ [];
  state = state;
}
