use Rattle.shade.proofs.Blended.{combined}
use Rattle.shade.proofs.blend_laws.is_determined.Goals as goal

pub returns-clause-some : goal.returns-clause-some
returns-clause-some c e channel o bytes = combined e.operation _ _ _ _ bytes.source bytes.stored
