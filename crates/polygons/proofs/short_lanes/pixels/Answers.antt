use Rattle.std.proofs.Common.{replicate}
use Rattle.polygons.proofs.Sixteen.{itself, splat, zipped, shifted16}
use Rattle.polygons.proofs.short_lanes.pixels.Goals as goal

pub returns-clause-length : goal.returns-clause-length
returns-clause-length c = (zipped shifted16 c.args.distances (replicate 16 8) _ _ (itself c.args.distances c.fits-distances.0) (splat 8)).long

pub returns-clause-each : goal.returns-clause-each
returns-clause-each c s l = (zipped shifted16 c.args.distances (replicate 16 8) _ _ (itself c.args.distances c.fits-distances.0) (splat 8)).each s l
