use Rattle.lanes.proofs.Lanewise.{with_half}
use Rattle.lanes.proofs.arithmetic.with_half.Goals as goal

pub returns : goal.returns
returns c = with_half c.args.a c.requires.long c.requires.small
