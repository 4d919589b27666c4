use Rattle.std.proofs.Common.{◌≡◌, ◌<◌, length, get_or, sym, ◌∙◌, arith}
use Rattle.json_tokens.proofs.Lexing.{operator_lexed}
use Rattle.json_tokens.proofs.lexeme.pass_operator.Goals as goal

pub returns : goal.returns
returns c =
    let text = c.args.bytes.now in
    let next = c.skip_blanks-next.result in
    let here : get_or text next 0 ≡ c.args.mark = grind arith in
    let within : next < length text = grind arith in
    (sym c.skip_blanks-next.ensures.same ∙ operator_lexed text next c.args.mark c.requires.mark.1 within here, omega arith)
