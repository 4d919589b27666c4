use Rattle.json_tokens.proofs.Rows.{space_taken}
use Rattle.json_tokens.proofs.row.pass_gap.Goals as goal

pub returns-in-Some-clause-same : goal.returns-in-Some-clause-same
returns-in-Some-clause-same c =
    let gap = c.in-Some.ensures in
    space_taken c.args.bytes.now c.args.ahead.at c.in-Some.behind.at gap.0 gap.1 gap.2
