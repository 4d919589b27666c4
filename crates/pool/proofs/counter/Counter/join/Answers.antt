use Rattle.std.proofs.Common.{rules}
use Rattle.pool.proofs.Counts.{joins}
use Rattle.pool.proofs.counter.Counter.join.Goals as goal

pub join_seat-requires : goal.join_seat-requires
join_seat-requires c = (search rules, search rules, search rules, search rules, joins c.args.self.now.table.shared.key _ _ _ _ c.requires.handle.1)
