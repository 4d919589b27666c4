use Rattle.std.proofs.Common.{◌≤◌, length}
use Rattle.lanes.specs.Block.{stored_at}
use Rattle.blocks.specs.Layout.{in_list}
use Rattle.blocks.specs.Lanes.{channel_of}
use Rattle.blocks.proofs.BlockMeans.{AreSums}
use Rattle.blocks.proofs.block_means.sums.Given as goal

abbrev pub invariant-loop-plane : goal.invariant-loop-plane
invariant-loop-plane l = record {
  within : l.plane-index ≤ length l.planes;
  sums : AreSums l.plane-index (λ s p. channel_of l.channel (stored_at (in_list l.planes s) p)) l.sums;
}
