use Rattle.std.proofs.Common.{◌≡◌, arith, rules, slice_index, slice_index_or}
use Rattle.std.proofs.lemmas.Int.{ints}
use Rattle.shade.proofs.Steps.{change_over, change_under, scaled_is, sum_is, kept_is, negated_is, negated-within}
use Rattle.shade.proofs.step.change.Goals as goal

pub overflow_sub-result : goal.overflow_sub-result
overflow_sub-result c = omega (arith, ints, c.sum_of-sum.ensures.size)

pub returns-then-area2-lt0-clause-change : goal.returns-then-area2-lt0-clause-change
returns-then-area2-lt0-clause-change c =
    let u : slice_index_or c.args.v 0 0 ≡ slice_index c.args.v 0 = search rules in
    let v : slice_index_or c.args.v 1 0 ≡ slice_index c.args.v 1 = search rules in
    let w : slice_index_or c.args.v 2 0 ≡ slice_index c.args.v 2 = search rules in
    let first = scaled_is _ c.rightward.result _ _ c.rightward.ensures.size u c.scaled-first.ensures.value in
    let second = scaled_is _ c.rightward-2.result _ _ c.rightward-2.ensures.size v c.scaled-second.ensures.value in
    let third = scaled_is _ c.rightward-3.result _ _ c.rightward-3.ensures.size w c.scaled-third.ensures.value in
    change_under _ _ _ _ _ _ c.rightward.result c.rightward-2.result c.rightward-3.result _
    (record { of_bc = c.rightward.ensures.stepped; of_ca = c.rightward-2.ensures.stepped; of_ab = c.rightward-3.ensures.stepped })
    (omega (arith, ints, c.area2.ensures.value, c.if-area2-lt0.true))
    (negated_is _ _ c.sum_of-sum.ensures.size (sum_is _ _ _ _ _ _ _ c.scaled-first.ensures.size c.scaled-second.ensures.size c.scaled-third.ensures.size first second third c.sum_of-sum.ensures.value))

pub returns-then-area2-lt0-clause-size : goal.returns-then-area2-lt0-clause-size
returns-then-area2-lt0-clause-size c = negated-within _ c.sum_of-sum.ensures.size

pub returns-else-area2-lt0-clause-change : goal.returns-else-area2-lt0-clause-change
returns-else-area2-lt0-clause-change c =
    let u : slice_index_or c.args.v 0 0 ≡ slice_index c.args.v 0 = search rules in
    let v : slice_index_or c.args.v 1 0 ≡ slice_index c.args.v 1 = search rules in
    let w : slice_index_or c.args.v 2 0 ≡ slice_index c.args.v 2 = search rules in
    let first = scaled_is _ c.rightward.result _ _ c.rightward.ensures.size u c.scaled-first.ensures.value in
    let second = scaled_is _ c.rightward-2.result _ _ c.rightward-2.ensures.size v c.scaled-second.ensures.value in
    let third = scaled_is _ c.rightward-3.result _ _ c.rightward-3.ensures.size w c.scaled-third.ensures.value in
    change_over _ _ _ _ _ _ c.rightward.result c.rightward-2.result c.rightward-3.result _
    (record { of_bc = c.rightward.ensures.stepped; of_ca = c.rightward-2.ensures.stepped; of_ab = c.rightward-3.ensures.stepped })
    (omega (arith, ints, c.area2.ensures.value, c.if-area2-lt0.false))
    (kept_is _ _ c.sum_of-sum.ensures.size (sum_is _ _ _ _ _ _ _ c.scaled-first.ensures.size c.scaled-second.ensures.size c.scaled-third.ensures.size first second third c.sum_of-sum.ensures.value))
