use Rattle.std.proofs.Common.{◌∙◌, slice_index, arith}
use Rattle.blocks.proofs.BlockMeans.{mean_of_both}
use Rattle.blocks.proofs.MaskLanes.{splat}
use Rattle.blocks.proofs.block_means.means_of_bytes.Goals as goal

pub means_of_both-requires-clause-first_bytes : goal.means_of_both-requires-clause-first_bytes
means_of_both-requires-clause-first_bytes c p l = omega (arith, (splat c.from-first.result).each p l, c.from-first.ensures, c.ranges.first.fits)

pub means_of_both-requires-clause-second_bytes : goal.means_of_both-requires-clause-second_bytes
means_of_both-requires-clause-second_bytes c p l = omega (arith, (splat c.from-second.result).each p l, c.from-second.ensures, c.ranges.second.fits)

pub returns : goal.returns
returns c p l =
    let bits = slice_index c.args.bits p in
    c.means_of_both.ensures p l
    ∙ (λ i. mean_of_both c.args.count bits ((splat c.from-first.result).each p l i) ((splat c.from-second.result).each p l i))
    ∙ (λ i. mean_of_both c.args.count bits (c.from-first.ensures i) (c.from-second.ensures i))
