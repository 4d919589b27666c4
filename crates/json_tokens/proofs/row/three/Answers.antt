use Rattle.std.proofs.Common.{◌∷◌, drop, refl, sym, ap, ◌∙◌}
use Rattle.json.specs.Token.{begin_array}
use Rattle.json.specs.Lex.{after_comma, punctuate}
use Rattle.json_tokens.specs.Tokens.{tokens_from}
use Rattle.json_tokens.specs.declared.place.Place.TheVariants.{Fresh, AfterComma}
use Rattle.json_tokens.proofs.Rows.{then_gap}
use Rattle.json_tokens.proofs.row.three.Goals as goal

pub returns : goal.returns
returns c =
    let text = c.args.bytes.now in
    let opens = c.in_ok-open.ensures.0 ∙ ap (λ k. begin_array ∷ tokens_from Fresh (drop k text)) (sym c.in_ok-ahead.ensures.0) in
    let gap = ap (punctuate after_comma) (sym c.pass_gap-has_gap.ensures.same) in
    let last = c.in_ok-third.ensures.0 AfterComma refl in (
      record {
        first = _;
        last = last.0;
        opens = opens;
        integers = (_, then_gap _ _ _ _ (c.in_ok-first.ensures.0 Fresh refl) gap, (_, c.in_ok-second.ensures.0 AfterComma refl, (_, last.1, refl)));
        closes = last.2;
      },
      c.in_ok-third.ensures.1,
    )
