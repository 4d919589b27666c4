use Rattle.shade.proofs.Resolved.{by_sum}
use Rattle.shade.proofs.resolve.mean.Goals as goal

pub returns : goal.returns
returns c = λ channel e. by_sum c.args.count channel c.args.sum c.count-samples.result c.count-samples.ensures e
