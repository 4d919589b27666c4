use Rattle.std.proofs.Common.{◌∙◌}
use Rattle.blocks.proofs.Ways.{other_way}
use Rattle.blocks.proofs.way.set_way.Goals as goal

pub returns-clause-others : goal.returns-clause-others
returns-clause-others c m h other = let state = c.say_each.new.state in other_way state.g state.r c.args.k c.match-way.state m other ∙ c.say_each.ensures.kept m h
