use Rattle.std.proofs.Common.{rules, length, inl, refl}
use Rattle.std.proofs.lemmas.Result.{err_from_is_err_and}
use Rattle.checks.specs.Checking.{done, check}
use Rattle.checks.proofs.Checking.{fails_before, fails_later}
use Rattle.c_abi.specs.declared.status.Status.TheVariants.{BadFormat}
use Rattle.canvas_c.specs.Pieces.{piece_checks, IsFormat}
use Rattle.canvas_c.proofs.images.image_rows.Goals as goal

pub returns-in_err-rows-clause-judged : goal.returns-in_err-rows-clause-judged
returns-in_err-rows-clause-judged c =
    let p = err_from_is_err_and c.from_residual.result c.from_residual.ensures.1 in
    rw (p.1, p.2) (fails_before (piece_checks c.args.head.now (length c.args.planes.now)) (check (IsFormat c.args.format) BadFormat done) _ c.in_err-rows.ensures.judged)

pub returns-in-None-clause-judged : goal.returns-in-None-clause-judged
returns-in-None-clause-judged c =
    let none : ¬ (IsFormat c.args.format) = search rules in
    fails_later (piece_checks c.args.head.now (length c.args.planes.now)) (check (IsFormat c.args.format) BadFormat done) BadFormat c.in_ok-rows.ensures.judged.0 (inl (none, refl))
