use Rattle.std.proofs.Common.{refl, [], ◌∷◌}
use Rattle.polygons.proofs.Filling.{zero_of}
use Rattle.polygons.proofs.fill.no_carry.Goals as goal

pub returns : goal.returns
returns c = zero_of (0 ∷ 0 ∷ 0 ∷ 0 ∷ 0 ∷ 0 ∷ 0 ∷ 0 ∷ 0 ∷ 0 ∷ 0 ∷ 0 ∷ 0 ∷ 0 ∷ 0 ∷ 0 ∷ 0 ∷ 0 ∷ 0 ∷ 0 ∷ 0 ∷ 0 ∷ 0 ∷ 0 ∷ 0 ∷ 0 ∷ 0 ∷ 0 ∷ 0 ∷ 0 ∷ 0 ∷ 0 ∷ []) refl
