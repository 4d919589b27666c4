use Rattle.std.proofs.Common.{◌∷◌, drop, to_z-of_z, sym, ap, ◌∙◌}
use Rattle.json.specs.Token.{number}
use Rattle.json_tokens.proofs.Places.{number_next}
use Rattle.json_tokens.proofs.lexeme.integer.Goals as goal

pub returns : goal.returns
returns c =
    let next = c.in_ok-place.ensures in
    let is = c.in_ok-number.ensures.1 next.0 in
    let first = number_next c.args.place (drop c.args.at c.args.bytes.now) is.written _ c.in_ok-from.ensures.0 (sym c.in_ok-from.ensures.1 ∙ is.lexed) in
    (record { written = is.written; first = first ∙ ap (λ ts. number is.written ∷ ts) (sym next.1); whole = rw (to_z-of_z is.fits) is.whole; fits = rw (to_z-of_z is.fits) is.fits }, next.2)
