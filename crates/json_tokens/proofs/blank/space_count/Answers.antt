use Rattle.std.proofs.Common.{◌==◌, not, ap, sym, ◌∙◌, arith}
use Rattle.std.proofs.lemmas.Simd.{bitmask_splat, leading_from_mask_l, trailing_mask_l}
use mir.Syntax.{w8}
use Rattle.json_tokens.specs.Blank.{is_no_space}
use lib.Count.{count_trailing_zeros}
use Rattle.json_tokens.proofs.blank.space_count.Goals as goal

pub returns-then-others-eq0 : goal.returns-then-others-eq0
returns-then-others-eq0 c =
    let mask = bitmask_splat w8 (λ a b. not (a == b)) c.args.lanes 16 32 c.requires (omega arith) in
    sym (leading_from_mask_l is_no_space c.args.lanes (sym mask ∙ c.if-others-eq0.true) ∙ c.requires)

pub returns-else-others-eq0 : goal.returns-else-others-eq0
returns-else-others-eq0 c =
    let v = c.args.lanes in
    let mask = bitmask_splat w8 (λ a b. not (a == b)) v 16 32 c.requires (omega arith) in
    ap (count_trailing_zeros 64) mask ∙ trailing_mask_l is_no_space 64 v (omega (arith, c.requires)) (omega (arith, mask, c.if-others-eq0.false))
