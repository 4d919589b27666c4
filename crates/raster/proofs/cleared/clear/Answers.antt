use Rattle.std.proofs.Common.{arith}
use Rattle.raster.proofs.cleared.clear.Goals as goal

pub returns : goal.returns
returns c = λ place k h low. rw (c.loop-plane.invariant place (omega (arith, h))) (c.filled-cleared.ensures k low)
