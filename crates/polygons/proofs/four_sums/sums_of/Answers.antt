use Rattle.std.proofs.Common.{arith, ◌*◌}
use Rattle.polygons.proofs.ByteSums.{part_long, part_read}
use Rattle.polygons.proofs.four_sums.sums_of.Goals as goal

pub returns-clause-whole : goal.returns-clause-whole
returns-clause-whole c = part_long (32 * c.args.row) 32 c.args.sums.now (omega (arith, c.requires, c.told-sums))

pub returns-clause-each : goal.returns-clause-each
returns-clause-each c q l = part_read (32 * c.args.row) 32 c.args.sums.now q l
