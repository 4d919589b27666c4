use Rattle.std.proofs.Common.{◌≡◌, ◌<◌, ◌∷◌, length, get_or, false, drop, refl, sym, ap, subst, ◌∙◌, arith}
use Rattle.json.specs.Token.{string}
use Rattle.json.specs.Lex.{after_value, begins_colon, between, lex, punctuate}
use Rattle.json_tokens.specs.Lexed.{GoesOn}
use Rattle.json_tokens.proofs.Places.{string_next, no_colon, goes_on_within}
use Rattle.json_tokens.proofs.lexeme.text.Goals as goal

pub returns : goal.returns
returns c =
    let text = c.args.bytes.now in
    let s = c.in_ok-found.found.now in
    let next = c.skip_blanks-next.result in
    let goes : GoesOn (get_or text next 0) = subst GoesOn c.byte_at.ensures.value (c.if-not-goes_on.ensures refl) in
    let some = goes_on_within text next goes in
    let within : next < length text = grind arith in
    let none : begins_colon (lex between (drop c.in_ok-found.end text)) ≡ false = ap begins_colon (sym c.skip_blanks-next.ensures.same) ∙ no_colon text next within goes in
    let first = string_next c.args.place (drop c.args.at text) s _ c.in_ok-from.ensures.0 (sym c.in_ok-from.ensures.1 ∙ c.in_ok-found.ensures.0) none in
    (first ∙ ap (λ ts. string s ∷ ts) (ap (punctuate after_value) (sym c.skip_blanks-next.ensures.same) ∙ sym c.after_value-place.ensures.same), c.after_value-place.ensures.within)
