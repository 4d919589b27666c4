use Rattle.std.proofs.Common.{arith}
use Rattle.list_history.proofs.Passed.{some_left, outside}
use Rattle.list_history.proofs.walk.coming_if_covered.Goals as goal

pub returns-then-row-from-clause-none : goal.returns-then-row-from-clause-none
returns-then-row-from-clause-none c =
    outside c.args.list.now c.args.history.now _ c.requires.list c.requires.some (rw c.number.ensures at c.rows-rows.ensures) (λ h. absurd (omega (arith, h.0)))

pub returns-then-from-row-clause-none : goal.returns-then-from-row-clause-none
returns-then-from-row-clause-none c =
    outside c.args.list.now c.args.history.now _ c.requires.list c.requires.some (rw c.number.ensures at c.rows-rows.ensures) (λ h. absurd (omega (arith, h.1)))

pub returns-in_err-triangle-clause-none : goal.returns-in_err-triangle-clause-none
returns-in_err-triangle-clause-none c =
    absurd (some_left c.args.list.now c.args.history.now c.requires.list c.requires.some (c.in_err-triangle.ensures.none))
