use Rattle.std.proofs.Common.{◌∙◌, ap, ◌+◌, ◌*◌, ◌%◌, ◌^◌}
use Rattle.cover.proofs.Words.{placed_is, moved_nothing}
use Rattle.cover.proofs.masks.placed.Goals as goal

pub returns-clause-bits : goal.returns-clause-bits
returns-clause-bits c row column lt within = placed_is c.spread.result c.args.word c.args.left c.args.top row column c.requires.left c.requires.top lt within c.spread.ensures.bits

pub returns-clause-empty : goal.returns-clause-empty
returns-clause-empty c e = ap (λ n. n * 2 ^ (8 * c.args.top + c.args.left) % 2 ^ 64) (c.spread.ensures.empty e) ∙ moved_nothing _
