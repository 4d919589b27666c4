use Rattle.std.proofs.Common.{◌≤◌, length, inr, refl, arith}
use Rattle.std.proofs.lemmas.Result.{err_from_is_err_and}
use Rattle.checks.specs.Checking.{done}
use Rattle.list_json.specs.Denotes.{Denotes}
use Rattle.trirast_c.specs.Texts.{IsFirstOfText}
use Rattle.trirast_c.proofs.Lists.{list_fails}
use Rattle.trirast_c.proofs.text.list_of.Goals as goal

pub returns-in_err-read-clause-judged : goal.returns-in_err-read-clause-judged
returns-in_err-read-clause-judged c =
    let json = c.args.json.now in
    let short : length json ≤ 67_108_864 = omega arith in
    let read = c.in_err-read.ensures in
    let p = err_from_is_err_and c.from_residual.result c.from_residual.ensures.1 in
    let fails = list_fails (Denotes json) (IsFirstOfText json) done c.in_err-read.field-0.0 p.0 p.2 (λ other. (c.in_err-read.field-0.0, read.first other, refl)) (λ other l means. other (read.only l means)) in
    rw p.1 (record { first = inr (short, fails.first); fault = fails.fault })
