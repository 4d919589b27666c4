use Rattle.std.proofs.Common.{◌≡◌, ◌∷◌, drop, true, sym, ap, ◌∙◌, arith}
use Rattle.json.specs.Token.{end_object}
use Rattle.json_tokens.specs.Tokens.{closes_at}
use Rattle.json_tokens.proofs.Places.{object_closes}
use Rattle.json_tokens.proofs.lexeme.close_object.Goals as goal

pub returns : goal.returns
returns c =
    let may : closes_at c.args.place ≡ true = grind arith in
    let closed = object_closes c.args.place (drop c.args.at c.args.bytes.now) _ may c.in_ok-next.ensures.0 in
    (closed ∙ ap (λ ts. end_object ∷ ts) (sym c.after_value.ensures.same), c.after_value.ensures.within)
