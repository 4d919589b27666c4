use Rattle.std.proofs.Common.{◌+◌, ◌*◌}
use Rattle.grid.specs.Samples.{count_of}
use Rattle.tile_blend.proofs.Planes.{ArePlanesChanged}
use Rattle.tile_blend.proofs.Numbered.{TakesNumbered}
use Rattle.tile_blend.proofs.blending.blend_planes.Given as goal

abbrev pub invariant-loop-s : goal.invariant-loop-s
invariant-loop-s l = ArePlanesChanged l.fn.count l.k l.s (λ s. TakesNumbered l.merge l.fragments.colours.now l.fragments.depths.now l.fragments.kept.now (l.k * count_of l.fn.count + s)) l.fn.samples l.samples
