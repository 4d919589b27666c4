use Rattle.std.proofs.Common.{◌∙◌, sym, ap, arith, ◌+◌, ◌<◌}
use Rattle.blocks.specs.Layout.{mask_of, first_further}
use Rattle.blocks.proofs.Places.{mask_from}
use Rattle.blocks.proofs.pair.set_further_masks.Goals as goal

pub returns-clause-set : goal.returns-clause-set
returns-clause-set c s h =
    let plane = c.loop-s.plane in
    let done : s < c.loop-s.s = omega (arith, c.loop-s-test.false, c.count-s-end.ensures, h) in
    mask_from (first_further c.args.count) plane s ∙ ap (λ n. mask_of plane (n + s)) (sym c.first_further-first.ensures.value) ∙ c.loop-s.invariant.set s done
