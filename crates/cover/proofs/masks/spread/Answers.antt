use Rattle.std.proofs.Common.{ap}
use Rattle.cover.proofs.Words.{spread, spread_is}
use Rattle.cover.proofs.masks.spread.Goals as goal

pub returns-clause-bits : goal.returns-clause-bits
returns-clause-bits c row column lt within = spread_is c.args.word row column lt within

pub returns-clause-empty : goal.returns-clause-empty
returns-clause-empty c e = ap spread e
