use Rattle.std.proofs.Common.{◌≡◌, get_or, refl, arith}
use Rattle.json_tokens.proofs.Rows.{some_left, passed}
use Rattle.json_tokens.proofs.row.pass.Goals as goal

pub returns : goal.returns
returns c =
    let text = c.args.bytes.now in
    let at = c.args.ahead.at in
    let some = some_left text at c.args.ahead.others c.requires c.if-ahead-eq0.false in
    let within = c.requires.within in
    let here : get_or text at 0 ≡ c.args.byte = grind arith in
    (here, omega (arith, within), refl, passed text at c.args.ahead.others 1 c.requires (omega (arith, some)))
