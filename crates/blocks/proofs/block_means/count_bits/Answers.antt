use Rattle.std.proofs.Common.{◌∙◌, ap, get_or, map-id}
use Rattle.blocks.proofs.block_means.count_bits.Goals as goal

pub returns-clause-each : goal.returns-clause-each
returns-clause-each c p l = ap (λ xs. get_or xs p 0) (map-id c.sum_bits.result) ∙ c.sum_bits.ensures.each p l
