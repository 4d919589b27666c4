use Rattle.lanes.proofs.Lanewise.{below, saturated_sum}
use Rattle.lanes.proofs.arithmetic.saturated_sum.Goals as goal

pub returns : goal.returns
returns c = saturated_sum c.args.a c.args.b c.least.result c.fits-a.0 c.fits-b.0 (below c.args.a c.fits-a.0 c.fits-a.1) (below c.args.b c.fits-b.0 c.fits-b.1) c.least.ensures
