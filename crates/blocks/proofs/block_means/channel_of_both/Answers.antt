use Rattle.std.proofs.Common.{◌∙◌, slice_index}
use Rattle.blocks.proofs.BlockMeans.{mean_of_both}
use Rattle.blocks.proofs.block_means.channel_of_both.Goals as goal

pub returns : goal.returns
returns c p l = c.means_of_both.ensures p l ∙ (λ i. mean_of_both c.args.count (slice_index c.args.bits p) (c.lanes_of.ensures.each p l i) (c.lanes_of-2.ensures.each p l i))
