use Rattle.std.proofs.Common.{sym}
use Rattle.batch.proofs.Ranges.{count_from}
use Rattle.batch.proofs.strided.StridedVertices.count.Goals as goal

pub returns : goal.returns
returns c =
    let s = c.args.self.now in
    sym (count_from s.stride s.bytes.now s.begin s.count)
