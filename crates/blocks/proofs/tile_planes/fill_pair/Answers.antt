use Rattle.std.proofs.Common.{◌∙◌, ap, arith}
use Rattle.lanes.specs.Block.{stored_at}
use Rattle.blocks.specs.Layout.{in_list, mask_of, chosen}
use Rattle.blocks.proofs.TilePlanes.{none_filled, one_filled}
use Rattle.blocks.proofs.Pairs.{chosen_with}
use Rattle.blocks.proofs.tile_planes.fill_pair.Goals as goal

pub loop-s-init : goal.loop-s-init
loop-s-init c = none_filled c.args.count c.args.k (λ s p. chosen (mask_of c.two_planes.result.2 s) p (stored_at c.two_planes.result.1 p) (stored_at c.two_planes.result.0 p)) c.args.samples.now

pub loop-s-preserved : goal.loop-s-preserved
loop-s-preserved c =
    let first = c.two_planes.result.0 in
    let second = c.two_planes.result.1 in
    let masks = c.two_planes.result.2 in
    one_filled c.args.count c.args.k c.loop-s.s c.place_by.result (λ s p. chosen (mask_of masks s) p (stored_at second p) (stored_at first p)) c.merged.result c.args.samples.now c.loop-s.samples c.place_by.ensures.value
    (omega (arith, c.place_by.ensures.within, c.loop-s.auto.samples, c.requires.samples)) (omega (arith, c.loop-s-test.true, c.count-s-end.ensures))
    (λ p small. c.merged.ensures p small ∙ ap (λ mask. chosen mask p (stored_at second p) (stored_at first p)) c.mask_of.ensures) c.loop-s.invariant

pub returns-clause-own : goal.returns-clause-own
returns-clause-own c s p h small =
    let masks = c.two_planes.result.2 in
    c.loop-s.invariant.filled s p (omega (arith, h, c.loop-s-test.false, c.count-s-end.ensures)) small
    ∙ (λ i. chosen (mask_of masks s) p (c.two_planes.ensures.second p small i) (c.two_planes.ensures.first p small i))
    ∙ chosen_with c.args.count c.args.way (in_list c.args.samples.now) masks c.args.k p s c.requires.way c.requires.few c.two_planes.ensures.masks

pub returns-clause-others : goal.returns-clause-others
returns-clause-others c = c.loop-s.invariant.kept
