use Rattle.std.proofs.Common.{◌∙◌, ap, ◌/◌, ◌<◌, ◌≤◌, get_or}
use Rattle.std.proofs.lemmas.Simd.{Each1-from_get_or}
use Rattle.blocks.proofs.BlockMeans.{means_are, mean_small}
use Rattle.blocks.proofs.block_means.means_of_sums.Goals as goal

pub narrowed-requires : goal.narrowed-requires
narrowed-requires c =
    let all = means_are c.args.count c.args.sums (c.count.result / 2) c.logarithm.result c.requires.whole c.requires.most (ap (λ n. n / 2) c.count.ensures) c.logarithm.ensures.value in
    Each1-from_get_or (λ n. n ≤ 255) _ 0 (λ k m. let l : k < 64 = rw all.long at m in rw (all.each k l) (mean_small c.args.count (get_or c.args.sums k 0) (c.requires.most k l)))

pub returns : goal.returns
returns c p l =
    let all = means_are c.args.count c.args.sums (c.count.result / 2) c.logarithm.result c.requires.whole c.requires.most (ap (λ n. n / 2) c.count.ensures) c.logarithm.ensures.value in
    ap (λ v. get_or v p 0) c.narrowed.ensures ∙ all.each p l
