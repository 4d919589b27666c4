use Rattle.std.proofs.Common.{refl}
use Rattle.std.proofs.lemmas.Simd.{get_or-chunk}
use Rattle.lanes.proofs.Groups.{tested_lane}
use Rattle.lanes.proofs.group.test_depths.Goals as goal

pub store_depths-requires-clause-old : goal.store_depths-requires-clause-old
store_depths-requires-clause-old c i l = get_or-chunk c.args.at 16 c.args.stored.now i 0 l

pub returns-then-is_clear-clause-set : goal.returns-then-is_clear-clause-set
returns-then-is_clear-clause-set c i l e =
    tested_lane c.args.merge.now _ _ _ _ _ _ (get_or-chunk c.args.at 16 c.args.stored.now i 0 l) (c.passes_lanes.ensures.each i l) (c.both-passed.ensures.both i l e)
    (λ set. absurd (c.is_clear.ensures c.if-is_clear.true i l set)) (λ _. refl)

pub returns-clause-set : goal.returns-clause-set
returns-clause-set c i l e =
    tested_lane c.args.merge.now _ _ _ _ _ _ (get_or-chunk c.args.at 16 c.args.stored.now i 0 l) (c.passes_lanes.ensures.each i l) (c.both-passed.ensures.both i l e)
    (c.store_depths.ensures.set i l) (c.store_depths.ensures.clear i l)
