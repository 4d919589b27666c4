use Rattle.list_history.proofs.Passed.{of_past}
use Rattle.list_history.proofs.walk.ListHistory.next_covered.Goals as goal

pub invariant_of-self : goal.invariant_of-self
invariant_of-self c = of_past _ _ _ c.self.invariant c.pass_uncovered.ensures.past

pub invariant_of-self-2 : goal.invariant_of-self-2
invariant_of-self-2 c = of_past _ _ _ c.self.invariant c.pass_uncovered.ensures.past
