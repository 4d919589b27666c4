-- The vertices of a batch.
use Rattle.std.specs.Prelude.{List}
use Rattle.batch.specs.declared.vertex.BatchVertex.{BatchVertex}
use Rattle.batch.specs.declared.vertices.BatchVertices.{BatchVertices}
use Rattle.batch.specs.declared.vertices.BatchVertices.TheVariants.{Packed, Strided}
use Rattle.batch.specs.Strides.{strided_vertices}

-- The vertices of a batch, however a caller has them.
abbrev pub vertices_given : BatchVertices → List BatchVertex
vertices_given (Packed vertices) = vertices.now
vertices_given (Strided bytes stride) = strided_vertices stride.bytes bytes.now
