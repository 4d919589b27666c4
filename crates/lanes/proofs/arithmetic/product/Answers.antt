use Rattle.std.proofs.Math.Nat.{mul-le-mul}
use Rattle.lanes.proofs.Lanewise.{product}
use Rattle.lanes.proofs.arithmetic.product.Goals as goal

pub returns-clause-value : goal.returns-clause-value
returns-clause-value c = product c.args.a c.args.b c.requires.0.long c.requires.1.long c.requires.0.small c.requires.1.small

pub returns-clause-term : goal.returns-clause-term
returns-clause-term c =
    let all = product c.args.a c.args.b c.requires.0.long c.requires.1.long c.requires.0.small c.requires.1.small in
    record { long = all.long; small = λ i l. rw (all.each i l) (mul-le-mul (c.requires.0.small i l) (c.requires.1.small i l)) }
