use Rattle.std.proofs.Common.{map, refl, ap, ◌∙◌, arith}
use lib.Lanes.{mask_l}
use Rattle.json_tokens.specs.Eight.{is_other}
use Rattle.json_tokens.proofs.row.look_ahead.Goals as goal

pub returns : goal.returns
returns c = (
  refl,
  record {
    count = 64;
    most = omega arith;
    within = omega (arith, c.if-bytes-at-lt72.false);
    marks = c.others_mask-others.ensures ∙ ap (λ v. mask_l (map is_other v)) c.row_offsets-offsets.ensures;
  },
)
