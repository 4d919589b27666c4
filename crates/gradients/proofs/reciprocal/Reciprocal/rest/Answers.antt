use Rattle.gradients.proofs.Exactness.{rest_is}
use Rattle.gradients.proofs.reciprocal.Reciprocal.rest.Goals as goal

pub returns : goal.returns
returns c =
    let r = c.args.self in
    rest_is c.args.bits r.area c.args.number c.args.quotient r.small c.requires.below
