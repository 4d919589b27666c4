use Rattle.std.proofs.Common.{ltb, w16}
use Rattle.std.proofs.lemmas.Simd.{tops_compared}
use Rattle.lanes.proofs.Lanewise.{greatest}
use Rattle.lanes.proofs.arithmetic.greatest.Goals as goal

pub returns : goal.returns
returns c = rw (tops_compared w16 ltb c.args.a c.args.b) (greatest c.args.a c.args.b c.fits-a.0 c.fits-b.0)
