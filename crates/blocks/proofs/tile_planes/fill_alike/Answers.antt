use Rattle.std.proofs.Common.{◌∙◌, refl, ap, sym, arith}
use Rattle.lanes.specs.Block.{stored_at}
use Rattle.blocks.specs.Layout.{in_list, sample_place}
use Rattle.blocks.proofs.TilePlanes.{none_filled, one_filled, alike_place, slot_is}
use Rattle.blocks.proofs.tile_planes.fill_alike.Goals as goal

pub loop-s-init : goal.loop-s-init
loop-s-init c = none_filled c.args.count c.args.k (λ s p. stored_at (in_list c.args.samples.now c.place_by.result) p) c.args.samples.now

pub loop-s-preserved : goal.loop-s-preserved
loop-s-preserved c =
    one_filled c.args.count c.args.k c.loop-s.s c.place_by-in-loop-s.result (λ s p. stored_at (in_list c.args.samples.now c.place_by.result) p) (in_list c.args.samples.now c.place_by.result) c.args.samples.now c.loop-s.samples c.place_by-in-loop-s.ensures.value
    (omega (arith, c.place_by-in-loop-s.ensures.within, c.loop-s.auto.samples, c.requires.samples)) (omega (arith, c.loop-s-test.true, c.count-s-end.ensures)) (λ p small. refl) c.loop-s.invariant

pub returns-clause-own : goal.returns-clause-own
returns-clause-own c s p h small =
    let count = c.args.count in
    let old = c.args.samples.now in
    c.loop-s.invariant.filled s p (omega (arith, h, c.loop-s-test.false, c.count-s-end.ensures)) small
    ∙ ap (λ q. stored_at (in_list old q) p) (c.place_by.ensures.value ∙ sym (alike_place count c.args.way c.args.k p s (in_list old) c.requires.plain c.requires.way))
    ∙ ap (stored_at (in_list old (sample_place count c.args.way (in_list old) c.args.k p s))) (sym (slot_is c.args.way c.args.k p c.requires.plain))

pub returns-clause-others : goal.returns-clause-others
returns-clause-others c = c.loop-s.invariant.kept
