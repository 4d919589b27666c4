use Rattle.lanes.proofs.Lanewise.{small_sum}
use Rattle.lanes.proofs.arithmetic.small_sum.Goals as goal

pub returns : goal.returns
returns c = small_sum c.args.a c.args.b c.fits-a.0 c.fits-b.0 c.requires
