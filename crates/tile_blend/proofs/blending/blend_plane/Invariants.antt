use Rattle.tile_blend.proofs.Planes.{AreSamplesChanged}
use Rattle.tile_blend.proofs.Numbered.{TakesFrom}
use Rattle.tile_blend.proofs.blending.blend_plane.Given as goal

abbrev pub invariant-loop-k : goal.invariant-loop-k
invariant-loop-k l = AreSamplesChanged (TakesFrom l.merge l.fragments.colours.now l.fragments.depths.now l.mask l.from) l.k l.fn.plane l.plane
