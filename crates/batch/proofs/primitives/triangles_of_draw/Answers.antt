use Rattle.std.proofs.Common.{sym}
use Rattle.batch.specs.OwnIndices.{indices_given, own_indices}
use Rattle.batch.proofs.primitives.triangles_of_draw.Goals as goal

pub returns : goal.returns
returns c = c.triangle_count.ensures.value (own_indices c.args.draw.now (indices_given c.args.indices.now)) (sym c.own_count.ensures)
