use Rattle.std.proofs.Common.{◌≡◌, false, drop, get_or, refl, arith}
use Rattle.std.proofs.lemmas.Bool.{false≢true}
use Rattle.json.specs.Lex.{after_value, between, lex, punctuate}
use Rattle.json_tokens.proofs.Places.{may_end_at}
use Rattle.json_tokens.proofs.Rows.{integer_taken}
use Rattle.json_tokens.proofs.row.last.Goals as goal

pub returns : goal.returns
returns c =
    let text = c.args.bytes.now in
    let at = c.args.ahead.at in
    let end = c.in_ok-size.end.at in
    let here : get_or text end 0 ≡ 93 = grind arith in
    let closes = c.in_ok-place.ensures in (
      λ p may. (
        punctuate after_value (lex between (drop end text)),
        integer_taken text at at end c.in_ok-size.size false p refl c.in_ok-size.ensures.0 (λ e. absurd (false≢true e)) (may_end_at text end 93 here refl) may,
        closes.0,
      ),
      closes.1,
    )
