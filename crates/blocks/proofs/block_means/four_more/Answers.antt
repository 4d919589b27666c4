use Rattle.std.proofs.Common.{slice_index}
use Rattle.blocks.proofs.MaskBits.{four_masks_added}
use Rattle.blocks.proofs.BlockMeans.{bit_sums}
use Rattle.blocks.proofs.block_means.four_more.Goals as goal

pub returns-clause-whole : goal.returns-clause-whole
returns-clause-whole c =
    let mask = slice_index c.args.masks.now in
    (four_masks_added c.args.s mask c.args.bits c.lanes_of_mask.result c.lanes_of_mask-2.result c.lanes_of_mask-3.result c.lanes_of_mask-4.result c.requires.masks
    (record { long = c.lanes_of_mask.ensures.whole; each = c.lanes_of_mask.ensures.each }) (record { long = c.lanes_of_mask-2.ensures.whole; each = c.lanes_of_mask-2.ensures.each })
    (record { long = c.lanes_of_mask-3.ensures.whole; each = c.lanes_of_mask-3.ensures.each }) (record { long = c.lanes_of_mask-4.ensures.whole; each = c.lanes_of_mask-4.ensures.each })
    (bit_sums c.args.s mask c.args.bits c.requires.whole c.requires.each)).long

pub returns-clause-each : goal.returns-clause-each
returns-clause-each c p l =
    let mask = slice_index c.args.masks.now in
    (four_masks_added c.args.s mask c.args.bits c.lanes_of_mask.result c.lanes_of_mask-2.result c.lanes_of_mask-3.result c.lanes_of_mask-4.result c.requires.masks
    (record { long = c.lanes_of_mask.ensures.whole; each = c.lanes_of_mask.ensures.each }) (record { long = c.lanes_of_mask-2.ensures.whole; each = c.lanes_of_mask-2.ensures.each })
    (record { long = c.lanes_of_mask-3.ensures.whole; each = c.lanes_of_mask-3.ensures.each }) (record { long = c.lanes_of_mask-4.ensures.whole; each = c.lanes_of_mask-4.ensures.each })
    (bit_sums c.args.s mask c.args.bits c.requires.whole c.requires.each)).each p l
