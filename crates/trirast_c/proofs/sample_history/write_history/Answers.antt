use Rattle.std.proofs.Common.{rules, inr}
use Rattle.std.proofs.lemmas.Result.{err_from_is_err_and}
use Rattle.checks.specs.Checking.{Checks, done, check}
use Rattle.list_json.specs.Denotes.{Denotes}
use Rattle.draw_list.specs.Scene.{Scene}
use Rattle.checks.proofs.Checking.{fails_before}
use Rattle.trirast_c.specs.Texts.{text_checks}
use Rattle.c_abi.specs.declared.status.Status.{Status}
use Rattle.c_abi.specs.declared.status.Status.TheVariants.{BadPixel, BadSample}
use Rattle.history_c.specs.History.{HasSizes, HasRequestedPixel, HasRequestedSample}
use Rattle.trirast_c.proofs.sample_history.write_history.Goals as goal

pub returns-in_err-list-clause-judged : goal.returns-in_err-list-clause-judged
returns-in_err-list-clause-judged c =
    let json = c.args.json.now in
    let request = c.args.request.now in
    let sizes : HasSizes request = search rules in
    let later : Checks Status = check ((l : Scene) → Denotes json l → HasRequestedPixel l request) BadPixel (check ((l : Scene) → Denotes json l → HasRequestedSample l request) BadSample done) in
    let read = c.in_err-list.ensures.judged in
    let p = err_from_is_err_and c.from_residual.result c.from_residual.ensures.1 in
    rw (p.1, p.2) (record { first = inr (sizes, fails_before (text_checks json done) later c.in_err-list.field-0.0.status read.first); fault = read.fault })
