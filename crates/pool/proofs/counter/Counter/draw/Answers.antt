use Rattle.std.proofs.Common.{rules}
use Rattle.pool.proofs.Counts.{draws}
use Rattle.pool.proofs.counter.Counter.draw.Goals as goal

pub fetch_add-number-requires : goal.fetch_add-number-requires
fetch_add-number-requires c = (search rules, search rules, draws c.args.self.now.table.shared.key _ _ _ c.requires.unmarked c.requires.handle.1)
