use Rattle.std.proofs.Common.{◌*◌}
use Rattle.polygons.proofs.ByteSums.{part_read}
use Rattle.polygons.proofs.four_words.four_of.Goals as goal

pub returns-clause-each : goal.returns-clause-each
returns-clause-each c w l = part_read (4 * c.args.row) 4 c.args.words.now w l
