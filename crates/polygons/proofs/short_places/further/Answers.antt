use Rattle.std.proofs.Common.{rules, replicate}
use Rattle.polygons.proofs.Sixteen.{itself, splat, zipped, sum16}
use Rattle.polygons.proofs.short_places.further.Goals as goal

pub returns-clause-whole : goal.returns-clause-whole
returns-clause-whole c = (zipped sum16 c.args.numbers.now (replicate 16 c.args.by) _ _ (itself c.args.numbers.now (search rules)) (splat c.args.by)).long

pub returns-clause-each : goal.returns-clause-each
returns-clause-each c s l = (zipped sum16 c.args.numbers.now (replicate 16 c.args.by) _ _ (itself c.args.numbers.now (search rules)) (splat c.args.by)).each s l
