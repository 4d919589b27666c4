use Rattle.std.proofs.Common.{refl, subst}
use Rattle.shade.specs.declared.state.State.{State}
use Rattle.block_fills.specs.Parts.{AllowsTile}
use Rattle.block_fills.proofs.whole.is_whole.Goals as goal

pub returns-clause-allows : goal.returns-clause-allows
returns-clause-allows c t = subst (λ (s : State). AllowsTile s c.args.tile.now) c.state.ensures (c.if-not-allows_tile.ensures refl)
