use Rattle.std.proofs.Common.{sym, subst, arith, rules}
use Rattle.std.proofs.lemmas.Int.{ints}
use Rattle.grid.specs.Position.{right_of}
use Rattle.grid.specs.Triangle.{Covers}
use Rattle.shade.specs.Row.{AttributeAt}
use Rattle.shade.proofs.Steps.{next_below, next_above, value_at, value_more, row_is}
use Rattle.shade.proofs.row.Row.step.Goals as goal

pub overflow_add-value : goal.overflow_add-value
overflow_add-value c = omega (arith, ints, c.from.ensures, c.self.invariant.is_step.split.size)

pub overflow_cast-self : goal.overflow_cast-self
overflow_cast-self c =
    let covered = subst (λ (t : AttributeAt). Covers t.a t.b t.c (right_of t.p)) (sym c.self.view_is) c.requires in
    let n = next_below _ _ _ _ _ _ _ _ _ _ c.self.invariant covered c.if-remainder-self.true in
    omega (arith, ints, n.is, n.few, value_at c.self.inside.value c.from.result c.self.inside.step.quotient (search rules) c.from.ensures c.self.invariant.is_step.split.size)

pub invariant_of-self : goal.invariant_of-self
invariant_of-self c =
    let covered = subst (λ (t : AttributeAt). Covers t.a t.b t.c (right_of t.p)) (sym c.self.view_is) c.requires in
    let n = next_below _ _ _ _ _ _ _ _ _ _ c.self.invariant covered c.if-remainder-self.true in
    row_is _ _ _ _ _ _ _ _ _ _ _ _ _ _ c.self.invariant covered c.right_of-self-inside.ensures
    (value_at c.self.inside.value c.from.result c.self.inside.step.quotient (search rules) c.from.ensures c.self.invariant.is_step.split.size) n

pub overflow_add-self : goal.overflow_add-self
overflow_add-self c = omega (arith, ints, c.from.ensures, c.self.invariant.is_step.split.size)

pub overflow_cast-self-else-remainder-self : goal.overflow_cast-self-else-remainder-self
overflow_cast-self-else-remainder-self c =
    let covered = subst (λ (t : AttributeAt). Covers t.a t.b t.c (right_of t.p)) (sym c.self.view_is) c.requires in
    let n = next_above _ _ _ _ _ _ _ _ _ _ c.self.invariant covered (omega (arith, c.if-remainder-self.false)) in
    omega (arith, ints, n.is, n.few, value_more c.self.inside.value c.from.result c.self.inside.step.quotient (search rules) c.from.ensures c.self.invariant.is_step.split.size)

pub invariant_of-self-else-remainder-self : goal.invariant_of-self-else-remainder-self
invariant_of-self-else-remainder-self c =
    let covered = subst (λ (t : AttributeAt). Covers t.a t.b t.c (right_of t.p)) (sym c.self.view_is) c.requires in
    let n = next_above _ _ _ _ _ _ _ _ _ _ c.self.invariant covered (omega (arith, c.if-remainder-self.false)) in
    row_is _ _ _ _ _ _ _ _ _ _ _ _ _ _ c.self.invariant covered c.right_of-self-inside.ensures
    (value_more c.self.inside.value c.from.result c.self.inside.step.quotient (search rules) c.from.ensures c.self.invariant.is_step.split.size) n
