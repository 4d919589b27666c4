use Rattle.std.proofs.Common.{◌∙◌, replicate, get_or}
use Rattle.std.proofs.lemmas.Nat.{and_mask}
use Rattle.polygons.proofs.Sixteen.{itself, splat, zipped, both16}
use Rattle.polygons.proofs.short_lanes.rests.Goals as goal

pub returns-clause-length : goal.returns-clause-length
returns-clause-length c = (zipped both16 c.args.distances (replicate 16 255) _ _ (itself c.args.distances c.fits-distances.0) (splat 255)).long

pub returns-clause-each : goal.returns-clause-each
returns-clause-each c s l = (zipped both16 c.args.distances (replicate 16 255) _ _ (itself c.args.distances c.fits-distances.0) (splat 255)).each s l ∙ and_mask (get_or c.args.distances s 0) 8
