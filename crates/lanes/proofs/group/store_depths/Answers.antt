use Rattle.std.proofs.Common.{◌∙◌}
use Rattle.lanes.proofs.Lanes.{stored_here, stored_elsewhere}
use Rattle.lanes.proofs.group.store_depths.Goals as goal

pub returns-then-written-clause-set : goal.returns-then-written-clause-set
returns-then-written-clause-set c i l e =
    rw c.if-written.true (stored_here c.args.at c.args.stored.now c.choose.result i c.choose.ensures.whole c.requires.room l ∙ c.choose.ensures.set i l e)

pub returns-then-written-clause-clear : goal.returns-then-written-clause-clear
returns-then-written-clause-clear c i l e =
    stored_here c.args.at c.args.stored.now c.choose.result i c.choose.ensures.whole c.requires.room l ∙ c.choose.ensures.clear i l e ∙ c.requires.old i l

pub returns-then-written-clause-elsewhere : goal.returns-then-written-clause-elsewhere
returns-then-written-clause-elsewhere c k h = stored_elsewhere c.args.at c.args.stored.now c.choose.result k c.choose.ensures.whole h
