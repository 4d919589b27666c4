use Rattle.std.proofs.Common.{◌∷◌, drop, sym, ap, ◌∙◌}
use Rattle.json.specs.Token.{boolean}
use Rattle.json_tokens.proofs.Places.{boolean_next}
use Rattle.json_tokens.proofs.lexeme.truth.Goals as goal

pub returns : goal.returns
returns c =
    let text = c.args.bytes.now in
    let b = c.in_ok-found.found in
    let first = boolean_next c.args.place (drop c.args.at text) b _ c.in_ok-from.ensures.0 (sym c.in_ok-from.ensures.1 ∙ c.in_ok-found.ensures.0) in
    (first ∙ ap (λ ts. boolean b ∷ ts) (sym c.after_value-place.ensures.same), c.after_value-place.ensures.within)
