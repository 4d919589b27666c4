use Rattle.std.proofs.Common.{ℕ, length}
use Rattle.lanes.specs.Block.{stored_at}
use Rattle.blocks.specs.Layout.{in_list}
use Rattle.blocks.proofs.BlockMeans.{mean_by_sum}
use Rattle.blocks.proofs.block_means.means.Goals as goal

pub returns : goal.returns
returns c p l =
    let count = c.args.count in
    let n : ℕ = length c.args.planes.now in
    let at = λ (s : ℕ). stored_at (in_list c.args.planes.now s) p in
    record {
      red = mean_by_sum count (λ s. (at s).r) n _ _ c.requires (c.sums.ensures.each p l) (c.means_of_sums.ensures p l);
      green = mean_by_sum count (λ s. (at s).g) n _ _ c.requires (c.sums-2.ensures.each p l) (c.means_of_sums-2.ensures p l);
      blue = mean_by_sum count (λ s. (at s).b) n _ _ c.requires (c.sums-3.ensures.each p l) (c.means_of_sums-3.ensures p l);
      alpha = mean_by_sum count (λ s. (at s).alpha) n _ _ c.requires (c.sums-4.ensures.each p l) (c.means_of_sums-4.ensures p l);
    }
