use Rattle.std.proofs.Common.{get_or, ap, ◌∙◌}
use Rattle.std.proofs.lemmas.Simd.{get_or-chunk}
use Rattle.lanes.proofs.group.stored_lanes.Goals as goal

pub returns-clause-each : goal.returns-clause-each
returns-clause-each c i l = ap (λ xs. get_or xs i 0) c.byte_lanes.ensures.value ∙ get_or-chunk c.args.at 16 c.args.stored.now i 0 l
