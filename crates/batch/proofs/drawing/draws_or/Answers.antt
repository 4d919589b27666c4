use Rattle.std.proofs.Common.{◌≡◌, [], arith}
use Rattle.batch.proofs.Draws.{none_of_none, draws_given}
use Rattle.batch.proofs.drawing.draws_or.Goals as goal

pub returns-in-empty : goal.returns-in-empty
returns-in-empty c vertices indices is =
    let none : c.args.draws.now ≡ [] = none_of_none c.args.draws.now (omega (arith, c.in-empty.len_below)) in
    rw none is

pub returns-in_default : goal.returns-in_default
returns-in_default c vertices indices is = draws_given c.args.draws.now vertices indices (λ none. omega (arith, none))
