use Rattle.std.proofs.Common.{arith}
use Rattle.reach.proofs.Sixteen.{none_from, none_before}
use Rattle.reach.proofs.words.next_bit.Goals as goal

pub returns-then-rest-eq0-clause-none : goal.returns-then-rest-eq0-clause-none
returns-then-rest-eq0-clause-none c _ bit from less = none_from c.args.word c.args.from bit from c.if-rest-eq0.true

pub returns-clause-some : goal.returns-clause-some
returns-clause-some c = (omega arith, λ bit from less. none_before c.args.word c.args.from bit from c.ranges.word.fits c.if-rest-eq0.false less)
