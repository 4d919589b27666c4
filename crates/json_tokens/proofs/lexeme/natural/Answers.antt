use Rattle.std.proofs.Common.{◌∷◌, true, false, drop, refl, sym, ap, ◌∙◌}
use Rattle.std.proofs.lemmas.Bool.{false≢true}
use Rattle.json.specs.Token.{number}
use Rattle.json_tokens.proofs.Lexing.{integer_is}
use Rattle.json_tokens.proofs.Places.{number_next}
use Rattle.json_tokens.proofs.lexeme.natural.Goals as goal

pub returns : goal.returns
returns c =
    let text = c.args.bytes.now in
    let from = c.in_ok-from.from in
    let next = c.in_ok-place.ensures in
    let is = integer_is text from from c.in_ok-number.end c.in_ok-number.number false refl c.in_ok-number.ensures (λ e. absurd (false≢true e)) next.0 in
    let first = number_next c.args.place (drop c.args.at text) is.written _ c.in_ok-from.ensures.0 (sym c.in_ok-from.ensures.1 ∙ is.lexed) in
    (record { written = is.written; first = first ∙ ap (λ ts. number is.written ∷ ts) (sym next.1); whole = is.whole; fits = is.fits }, next.2)
