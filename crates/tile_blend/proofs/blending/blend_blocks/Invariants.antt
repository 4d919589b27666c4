use Rattle.tile_blend.specs.Fragments.{TakesKept}
use Rattle.tile_blend.proofs.Blocks.{AreBlocksChanged}
use Rattle.tile_blend.proofs.blending.blend_blocks.Given as goal

abbrev pub invariant-loop-k : goal.invariant-loop-k
invariant-loop-k l = AreBlocksChanged l.count l.k (TakesKept l.count l.merge l.fragments.colours.now l.fragments.depths.now l.fragments.kept.now) l.fn.samples l.samples
