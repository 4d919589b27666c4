use Rattle.std.proofs.Common.{◌∷◌, drop, sym, ap, ◌∙◌}
use Rattle.json.specs.Token.{string}
use Rattle.json.specs.Lex.{token}
use Rattle.json_tokens.proofs.Places.{key_next}
use Rattle.json_tokens.proofs.lexeme.key.Goals as goal

pub returns : goal.returns
returns c =
    let s = c.in_ok-name.name.now in
    let next = c.in_ok-pass_operator.ensures.0 in
    (key_next c.args.place (drop c.args.at c.args.bytes.now) s _ c.in_ok-from.ensures.0 (sym c.in_ok-from.ensures.1 ∙ c.in_ok-name.ensures.0 ∙ ap (λ ls. token (string s) ∷ ls) next), c.in_ok-pass_operator.ensures.1)
