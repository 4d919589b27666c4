use Rattle.std.proofs.Common.{◌≤◌, ℕ, subst}
use Rattle.shade.specs.Row.{AttributeAt}
use Rattle.shade.proofs.Values.{value-bound, value_of}
use Rattle.shade.proofs.row.Row.value.Goals as goal

pub returns-clause-at_most : goal.returns-clause-at_most
returns-clause-at_most c =
    subst (λ (t : AttributeAt). (most : ℕ) → t.u ≤ most → t.v ≤ most → t.w ≤ most → c.self.inside.value ≤ most) c.self.view_is
    (λ most u v w. value-bound _ _ _ _ _ _ _ most _ c.self.invariant.covered u v w (value_of _ _ _ _ c.self.invariant.divided))
