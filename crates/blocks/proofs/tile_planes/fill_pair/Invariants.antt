use Rattle.lanes.specs.Block.{stored_at}
use Rattle.blocks.specs.Layout.{mask_of, chosen}
use Rattle.blocks.proofs.TilePlanes.{AreFilled}
use Rattle.blocks.proofs.tile_planes.fill_pair.Given as goal

abbrev pub invariant-loop-s : goal.invariant-loop-s
invariant-loop-s l = AreFilled l.fn.count l.k l.s (λ s p. chosen (mask_of l.masks s) p (stored_at l.second p) (stored_at l.first p)) l.fn.samples l.samples
