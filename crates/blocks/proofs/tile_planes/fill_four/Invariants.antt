use Rattle.blocks.specs.Palettes.{palette_sample}
use Rattle.blocks.proofs.TilePlanes.{AreFilled}
use Rattle.blocks.proofs.tile_planes.fill_four.Given as goal

abbrev pub invariant-loop-s : goal.invariant-loop-s
invariant-loop-s l = AreFilled l.fn.count l.k l.s (λ s p. palette_sample l.palette s p) l.fn.samples l.samples
