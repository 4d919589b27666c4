use Rattle.shade.proofs.Merged.{interpolated}
use Rattle.shade.proofs.placed.Placed.channel_if.Goals as goal

pub returns-then-needed : goal.returns-then-needed
returns-then-needed c = λ _.
    interpolated c.args.self.now c.args.weights.now _ _ _ c.requires.triangle c.channel.ensures c.channel-then-needed.ensures
