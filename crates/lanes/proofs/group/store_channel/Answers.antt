use Rattle.std.proofs.Common.{get_or, ap, ◌∙◌}
use Rattle.std.proofs.lemmas.Simd.{get_or-chunk}
use Rattle.lanes.proofs.Lanes.{stored_here, stored_elsewhere}
use Rattle.lanes.proofs.group.store_channel.Goals as goal

pub returns-then-written-clause-set : goal.returns-then-written-clause-set
returns-then-written-clause-set c i l e =
    rw c.if-written.true
    (stored_here c.args.at c.args.stored.now c.choose_bytes.result i c.choose_bytes.ensures.whole c.requires.room l ∙ c.choose_bytes.ensures.set i l e
    ∙ ap (λ v. get_or v i 0) c.narrow.ensures)

pub returns-then-written-clause-clear : goal.returns-then-written-clause-clear
returns-then-written-clause-clear c i l e =
    stored_here c.args.at c.args.stored.now c.choose_bytes.result i c.choose_bytes.ensures.whole c.requires.room l
    ∙ c.choose_bytes.ensures.clear i l e
    ∙ get_or-chunk c.args.at 16 c.args.stored.now i 0 l

pub returns-then-written-clause-elsewhere : goal.returns-then-written-clause-elsewhere
returns-then-written-clause-elsewhere c k h = stored_elsewhere c.args.at c.args.stored.now c.choose_bytes.result k c.choose_bytes.ensures.whole h
