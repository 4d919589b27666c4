use Rattle.std.proofs.Common.{replicate}
use Rattle.polygons.proofs.Sixteen.{itself, splat, zipped, shifted16}
use Rattle.polygons.proofs.short_places.blocks.Goals as goal

pub returns-clause-whole : goal.returns-clause-whole
returns-clause-whole c = (zipped shifted16 c.args.numbers (replicate 16 3) _ _ (itself c.args.numbers c.fits-numbers.0) (splat 3)).long

pub returns-clause-each : goal.returns-clause-each
returns-clause-each c s l = (zipped shifted16 c.args.numbers (replicate 16 3) _ _ (itself c.args.numbers c.fits-numbers.0) (splat 3)).each s l
