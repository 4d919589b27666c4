use Rattle.std.proofs.Common.{◌*◌}
use Rattle.polygons.proofs.ByteSums.{part_read}
use Rattle.polygons.proofs.byte_sums.sums_of.Goals as goal

pub returns-clause-each : goal.returns-clause-each
returns-clause-each c r l = part_read (8 * c.args.word) 8 c.args.sums.now r l
