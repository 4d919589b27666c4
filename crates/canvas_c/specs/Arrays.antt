-- A batch's arrays in the caller's memory.
use Rattle.std.specs.Prelude.{◌≡◌, ◌⊎◌, ℕ, ◌==◌, if◌then◌else◌, List, length, Option, Some, None}
use Rattle.batch.specs.Strides.{IsStride, strided_vertices}
use Rattle.batch.specs.declared.vertex.BatchVertex.{BatchVertex}
use Rattle.c_abi.specs.Sizes.{IsOwnSize}
use Rattle.canvas_c.specs.declared.arrays.Batch.{Batch}

-- The indices have 2 bytes or 4, or 0 for 4.
abbrev pub HasIndexSize : Batch → Type 0
HasIndexSize batch = (batch.index_size ≡ 2) ⊎ IsOwnSize batch.index_size 4

-- The stride of the vertices is one that there is, or 0 for 16.
abbrev pub HasVertexStride : Batch → Type 0
HasVertexStride batch = (batch.vertex_stride ≡ 0) ⊎ IsStride batch.vertex_stride

-- The vertices of the batch: one at the end of another, or each at its index times the stride.
abbrev pub vertices_of : Batch → List BatchVertex
vertices_of batch =
    if batch.vertex_stride == 0 then batch.vertices.now
    else (if batch.vertex_stride == 16 then batch.vertices.now
    else strided_vertices batch.vertex_stride batch.strided.now)

-- The caller's memory holds as many vertices as the caller says there are.
abbrev pub HasAllVertices : Batch → Type 0
HasAllVertices batch = length (vertices_of batch) ≡ batch.vertex_total

-- The indices of the batch, if it has any: those of 2 bytes or those of 4, as the caller says.
abbrev pub indices_of : Batch → Option (List ℕ)
indices_of batch =
    if batch.in_order == 0 then (if batch.index_size == 2 then Some batch.short_indices.now else Some batch.indices.now)
    else None
