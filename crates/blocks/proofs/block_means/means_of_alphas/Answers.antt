use Rattle.std.proofs.Common.{◌∙◌, ap, sym, slice_index}
use Rattle.blocks.proofs.BlockMeans.{mean_of_both, both_alike}
use Rattle.blocks.proofs.MaskLanes.{splat}
use Rattle.blocks.proofs.block_means.means_of_alphas.Goals as goal

pub returns-then-first-second : goal.returns-then-first-second
returns-then-first-second c p l =
    let bits = slice_index c.args.bits p in
    (splat c.args.first).each p l ∙ sym (both_alike c.args.count c.args.first bits (c.requires.few p l)) ∙ ap (λ y. mean_of_both c.args.count bits c.args.first y) c.if-first-second.true
