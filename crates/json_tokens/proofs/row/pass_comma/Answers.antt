use Rattle.std.proofs.Common.{ap, refl, ◌∙◌}
use Rattle.json.specs.Lex.{after_comma, punctuate}
use Rattle.json_tokens.proofs.Places.{may_end_at}
use Rattle.json_tokens.proofs.Rows.{comma_taken, space_taken}
use Rattle.json_tokens.proofs.row.pass_comma.Goals as goal

pub returns-then-not-has_gap : goal.returns-then-not-has_gap
returns-then-not-has_gap c =
    let text = c.args.bytes.now in
    let comma = c.in_ok-behind.ensures in
    (may_end_at text c.args.ahead.at 44 comma.0 refl, comma_taken text c.args.ahead.at c.in_ok-behind.behind.at comma.0 comma.1 comma.2, comma.3)

pub returns : goal.returns
returns c =
    let text = c.args.bytes.now in
    let comma = c.in_ok-behind.ensures in
    let gap = c.in_ok-next.ensures in
    let same = space_taken text c.in_ok-behind.behind.at c.in_ok-next.next.at gap.0 gap.1 gap.2 in (
      may_end_at text c.args.ahead.at 44 comma.0 refl,
      ap (punctuate after_comma) same ∙ comma_taken text c.args.ahead.at c.in_ok-behind.behind.at comma.0 comma.1 comma.2,
      gap.3,
    )
