use Rattle.std.proofs.Common.{◌∙◌, ap, get_or, take, map-id, arith}
use Rattle.std.proofs.lemmas.List.{get_or-take}
use Rattle.lanes.proofs.Rows.{byte}
use Rattle.blocks.proofs.block_means.widened.Goals as goal

pub returns-clause-each : goal.returns-clause-each
returns-clause-each c p l = ap (λ xs. get_or xs p 0) (map-id (take 64 c.args.bytes.now)) ∙ get_or-take 64 c.args.bytes.now p 0 l

pub returns-clause-bytes : goal.returns-clause-bytes
returns-clause-bytes c p l =
    let same = ap (λ xs. get_or xs p 0) (map-id (take 64 c.args.bytes.now)) ∙ get_or-take 64 c.args.bytes.now p 0 l in
    omega (arith, same, byte c.args.bytes.now c.type_inv.bytes p)
