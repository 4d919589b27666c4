use Rattle.lanes.specs.Block.{stored_at}
use Rattle.blocks.proofs.TilePlanes.{AreFilled}
use Rattle.blocks.proofs.tile_planes.fill_alike.Given as goal

abbrev pub invariant-loop-s : goal.invariant-loop-s
invariant-loop-s l = AreFilled l.fn.count l.k l.s (λ s p. stored_at l.plane p) l.fn.samples l.samples
