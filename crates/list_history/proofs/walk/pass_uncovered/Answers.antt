use Rattle.std.proofs.Common.{◌≡◌, [], arith}
use Rattle.history.proofs.Chained.{past_more}
use Rattle.list_history.proofs.Passed.{of_past, none_left, end_past}
use Rattle.list_history.proofs.walk.pass_uncovered.Goals as goal

pub coming_if_covered-requires-clause-list : goal.coming_if_covered-requires-clause-list
coming_if_covered-requires-clause-list c = of_past _ _ _ c.requires c.loop-history.invariant

pub loop-history-preserved : goal.loop-history-preserved
loop-history-preserved c = past_more _ _ _ c.loop-history.invariant c.pass.ensures.past

pub returns-clause-none : goal.returns-clause-none
returns-clause-none c = none_left _ _ (of_past _ _ _ c.requires c.loop-history.invariant) (omega arith)

pub returns-clause-end : goal.returns-clause-end
returns-clause-end c =
    let none : c.loop-history.history.left ≡ [] = none_left _ _ (of_past _ _ _ c.requires c.loop-history.invariant) (omega arith) in
    end_past _ _ _ c.requires c.loop-history.invariant none
