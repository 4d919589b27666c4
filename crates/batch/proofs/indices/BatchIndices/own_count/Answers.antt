use Rattle.std.proofs.Common.{sym}
use Rattle.std.proofs.lemmas.List.FromFn.{length-range_with_len}
use Rattle.batch.proofs.indices.BatchIndices.own_count.Goals as goal

pub returns-in-InOrder : goal.returns-in-InOrder
returns-in-InOrder c = rw c.in-InOrder.is (sym (length-range_with_len 0 c.args.draw.now.vertices))
