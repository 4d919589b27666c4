-- The ranges of the numbers in a caller's arrays.
use Rattle.grid.specs.Position.{IsInBand}
use Rattle.batch.specs.declared.vertex.BatchVertex.{BatchVertex}

-- The coordinates of a vertex are in the guard band.
pub record IsVertexInRange (v : BatchVertex) : Type 0 where
  pub x : IsInBand v.x
  pub y : IsInBand v.y
