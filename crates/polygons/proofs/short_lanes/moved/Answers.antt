use Rattle.std.proofs.Common.{rules, ◌∙◌, arith, get_or, replicate}
use Rattle.polygons.proofs.Sixteen.{itself, splat, zipped, sum16, exact_sum}
use Rattle.polygons.proofs.short_lanes.moved.Goals as goal

pub returns-clause-length : goal.returns-clause-length
returns-clause-length c = (zipped sum16 c.args.distances.now (replicate 16 c.args.by) _ _ (itself c.args.distances.now (search rules)) (splat c.args.by)).long

pub returns-clause-each : goal.returns-clause-each
returns-clause-each c s l =
    let room = c.requires.room s l in
    (zipped sum16 c.args.distances.now (replicate 16 c.args.by) _ _ (itself c.args.distances.now (search rules)) (splat c.args.by)).each s l ∙ exact_sum (get_or c.args.distances.now s 0) c.args.by (omega (arith, room, c.requires.small))
