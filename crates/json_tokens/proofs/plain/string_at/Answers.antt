use Rattle.std.proofs.Common.{◌≡◌, ◌<◌, ◌∷◌, ◌+◌, ◌-◌, length, take, drop, get_or, sym, ap, ◌∙◌, arith}
use Rattle.json.specs.Token.{string}
use Rattle.json.specs.Lex.{token, between, lex}
use Rattle.json_tokens.proofs.Lexing.{string_lexed}
use Rattle.json_tokens.proofs.plain.string_at.Goals as goal

pub returns : goal.returns
returns c =
    let text = c.args.bytes.now in
    let from = c.args.from in
    let end = c.plain_end-end.result in
    let opening : get_or text from 0 ≡ 34 = grind arith in
    let within : from < length text = grind arith in
    let closing : get_or text end 0 ≡ 34 = grind arith in
    let inside : end < length text = grind arith in
    let same : c.in-Ok.text.now ≡ take (end - (from + 1)) (drop (from + 1) text) = c.in-Ok.ensures.cases.0 in
    let plain = c.plain_end-end.ensures in
    (string_lexed text from end within opening plain.0 plain.2 inside closing ∙ ap (λ s. token (string s) ∷ lex between (drop (end + 1) text)) (sym same), omega arith)
