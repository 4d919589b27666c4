use Rattle.lanes.proofs.Lanewise.{below, saturated_difference}
use Rattle.lanes.proofs.arithmetic.saturated_difference.Goals as goal

pub returns : goal.returns
returns c = saturated_difference c.args.a c.args.b c.least.result c.fits-a.0 (below c.args.a c.fits-a.0 c.fits-a.1) c.least.ensures
