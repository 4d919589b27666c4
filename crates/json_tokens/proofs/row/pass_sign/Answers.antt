use Rattle.std.proofs.Common.{arith}
use Rattle.json_tokens.proofs.Rows.{some_left, passed}
use Rattle.json_tokens.proofs.row.pass_sign.Goals as goal

pub returns-clause-ahead : goal.returns-clause-ahead
returns-clause-ahead c =
    let text = c.args.bytes.now in
    let some = some_left text c.args.ahead.at c.args.ahead.others c.requires c.if-ahead-eq0.false in
    let most = c.sign_width-width.ensures.most in
    passed text c.args.ahead.at c.args.ahead.others c.sign_width-width.result c.requires (omega (arith, some, most))
