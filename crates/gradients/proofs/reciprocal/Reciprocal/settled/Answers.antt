use Rattle.std.proofs.Common.{◌+◌, arith}
use Rattle.gradients.proofs.Exactness.{quotient_fits}
use Rattle.gradients.proofs.reciprocal.Reciprocal.settled.Goals as goal

pub overflow_add-result : goal.overflow_add-result
overflow_add-result c =
    let r = c.args.self in
    let small = quotient_fits c.args.bits r.area c.args.number (c.quotient-quotient.result + 1) c.requires.high c.requires.level (omega (arith, c.rest-rest.ensures, c.if-rest-self.true)) in
    record { fits = omega (arith, small) }

pub returns-then-rest-self-clause-small : goal.returns-then-rest-self-clause-small
returns-then-rest-self-clause-small c =
    let r = c.args.self in
    quotient_fits c.args.bits r.area c.args.number (c.quotient-quotient.result + 1) c.requires.high c.requires.level (omega (arith, c.rest-rest.ensures, c.if-rest-self.true))

pub returns-else-rest-self-clause-small : goal.returns-else-rest-self-clause-small
returns-else-rest-self-clause-small c =
    let r = c.args.self in
    quotient_fits c.args.bits r.area c.args.number c.quotient-quotient.result c.requires.high c.requires.level c.quotient-quotient.ensures.low
