use Rattle.gradients.proofs.WholeValues.{divisor_from}
use Rattle.gradients.proofs.whole_values.common_divisor.Goals as goal

pub returns-clause-divides : goal.returns-clause-divides
returns-clause-divides c =
    divisor_from c.divisor_of_two-3.result c.args.area c.args.across c.args.down c.args.corner c.args.least c.in_ok-divisor.divisor c.in_ok-divisor-2.divisor c.requires c.in_ok-divisor.ensures.first c.in_ok-divisor.ensures.second c.in_ok-divisor-2.ensures.first c.in_ok-divisor-2.ensures.second
    c.divisor_of_two-3.ensures.least c.divisor_of_two-3.ensures.first c.divisor_of_two-3.ensures.second
