use Rattle.std.proofs.Common.{slice_set}
use Rattle.blocks.proofs.Ways.{own_before}
use Rattle.blocks.proofs.way.say_each.Goals as goal

pub returns-then-state-eq0-clause-kept : goal.returns-then-state-eq0-clause-kept
returns-then-state-eq0-clause-kept c k h = let state = c.args.state.now in own_before (slice_set state.g 0 1) state.g k h c.if-state-eq0.true state.r
