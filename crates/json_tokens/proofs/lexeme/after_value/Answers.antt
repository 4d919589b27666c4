use Rattle.std.proofs.Common.{◌≡◌, ◌<◌, length, get_or, refl, sym, ap, ◌∙◌, arith}
use Rattle.json.specs.Lex.{after_value, punctuate}
use Rattle.json_tokens.proofs.Lexing.{operator_lexed}
use Rattle.json_tokens.proofs.Places.{comma_passed}
use Rattle.json_tokens.proofs.lexeme.after_value.Goals as goal

pub returns-then-byte_at-eq44-clause-same : goal.returns-then-byte_at-eq44-clause-same
returns-then-byte_at-eq44-clause-same c =
    let text = c.args.bytes.now in
    let next = c.skip_blanks-next.result in
    let here : get_or text next 0 ≡ 44 = grind arith in
    let within : next < length text = grind arith in
    sym (ap (punctuate after_value) (sym c.skip_blanks-next.ensures.same) ∙ comma_passed _ _ (operator_lexed text next 44 refl within here))
