use Rattle.lanes.proofs.Lanewise.{inverse}
use Rattle.lanes.proofs.arithmetic.inverse.Goals as goal

pub returns : goal.returns
returns c = inverse c.args.a c.requires.long c.requires.small
