-- Vertices in memory, a stride apart.
use Rattle.std.specs.Prelude.{◌≡◌, ℕ, ◌+◌, ◌-◌, ◌*◌, ◌/◌, ◌%◌, ◌≤◌, List, length, map, drop, slice_index, slice_range}
use Rattle.std.specs.Int.{w16, w32, cast_signed, from_le_bytes}
use Rattle.std.specs.List.{range_with_len}
use Rattle.batch.specs.declared.vertex.BatchVertex.{BatchVertex}

-- The bytes from a vertex to the next. They are at least those of a vertex, at most those that Direct3D 11 allows
-- (D3D11_REQ_MULTI_ELEMENT_STRUCTURE_SIZE_IN_BYTES), and aligned as a vertex is.
pub record IsStride (bytes : ℕ) : Type 0 where
  pub wide : 16 ≤ bytes
  pub near : bytes ≤ 2048
  pub aligned : bytes % 4 ≡ 0

-- The vertex of these 16 bytes, laid out as in C: the lowest byte of each number is the first.
abbrev pub vertex_of_bytes : List ℕ → BatchVertex
vertex_of_bytes bytes = record {
  x = cast_signed w32 (from_le_bytes w32 bytes);
  y = cast_signed w32 (from_le_bytes w32 (drop 4 bytes));
  depth = from_le_bytes w16 (drop 8 bytes);
  red = slice_index bytes 10;
  green = slice_index bytes 11;
  blue = slice_index bytes 12;
  alpha = slice_index bytes 13;
  unused = from_le_bytes w16 (drop 14 bytes);
}

-- Vertex k: the 16 bytes at k times the stride.
abbrev pub vertex_in : ℕ → List ℕ → ℕ → BatchVertex
vertex_in stride bytes k = vertex_of_bytes (slice_range bytes (k * stride) (k * stride + 16))

-- This many vertices, of which the first is vertex `begin`.
abbrev pub vertices_from : ℕ → List ℕ → ℕ → ℕ → List BatchVertex
vertices_from stride bytes begin count = map (vertex_in stride bytes) (range_with_len begin count)

-- All vertices whose 16 bytes are there: each k with k * stride + 16 at most the number of the bytes.
abbrev pub strided_vertices : ℕ → List ℕ → List BatchVertex
strided_vertices stride bytes = vertices_from stride bytes 0 ((length bytes + stride - 16) / stride)
