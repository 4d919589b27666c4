use Rattle.std.proofs.Common.{rules}
use Rattle.pool.proofs.Counts.{cuts}
use Rattle.pool.proofs.counter.Counter.cut.Goals as goal

pub split_seat-seat-requires : goal.split_seat-seat-requires
split_seat-seat-requires c = (search rules, search rules, cuts c.args.self.now.table.shared.key _ _ c.requires.seats c.requires.unmarked c.requires.handle.1)
