use Rattle.std.proofs.Common.{ap, ◌∙◌, arith}
use lib.Count.{count_trailing_zeros}
use Rattle.json_tokens.proofs.Eights.{others_mask, first_other}
use Rattle.json_tokens.proofs.eight.digit_count.Goals as goal

pub returns-else-others-eq0 : goal.returns-else-others-eq0
returns-else-others-eq0 c =
    let v = c.args.offsets in
    let mask = others_mask 8 v c.requires (omega arith) in
    ap (count_trailing_zeros 64) mask ∙ first_other v c.requires (λ e. c.if-others-eq0.false (mask ∙ e))
