use Rattle.std.proofs.Common.{◌≡◌, drop, true, Some, sym, ap, ◌∙◌, arith}
use Rattle.json_tokens.specs.Tokens.{closes_at}
use Rattle.json_tokens.proofs.Places.{array_closes}
use Rattle.json_tokens.proofs.lexeme.close_array.Goals as goal

pub returns : goal.returns
returns c =
    let may : closes_at c.args.place ≡ true = grind arith in
    let closed = array_closes c.args.place (drop c.args.at c.args.bytes.now) _ may c.in_ok-next.ensures.0 in
    (closed ∙ ap Some (sym c.after_value.ensures.same), c.after_value.ensures.within)
