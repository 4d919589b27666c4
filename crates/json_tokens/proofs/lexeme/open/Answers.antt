use Rattle.std.proofs.Common.{◌≡◌, drop, true, arith}
use Rattle.json_tokens.specs.Tokens.{begins_at}
use Rattle.json_tokens.proofs.Places.{opening_operator, opens, if_some}
use Rattle.json_tokens.proofs.lexeme.open.Goals as goal

pub pass_operator-requires-clause-mark : goal.pass_operator-requires-clause-mark
pass_operator-requires-clause-mark c = opening_operator c.args.mark c.requires.mark

pub returns : goal.returns
returns c =
    let may : begins_at c.args.place ≡ true = grind arith in
    if_some c.pass_operator.result (λ next h. (opens c.args.mark c.args.place (drop c.args.at c.args.bytes.now) _ c.requires.mark may h.0, h.1)) c.pass_operator.ensures
