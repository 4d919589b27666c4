use Rattle.std.proofs.lemmas.Result.{err_from_is_err_and}
use Rattle.engine.proofs.Ended.{ends_by_picture}
use Rattle.engine.proofs.runs.run_with.Goals as goal

pub returns-in_err-write_picture : goal.returns-in_err-write_picture
returns-in_err-write_picture g c =
    let p = err_from_is_err_and c.from_residual-in_err-write_picture.result c.from_residual-in_err-write_picture.ensures.1 in
    let denoted = rw c.as_slice.ensures.value at c.in_ok-list.ensures.ok in
    rw (p.1, p.2)
    (ends_by_picture c.args.options.tile _ _ _ _ _ _ _ _ _ c.in_ok-bytes.ensures.whole denoted c.in_ok-bytes.ensures.failed c.in_err-write_picture.field-0.0 c.in_err-write_picture.ensures.fault c.in_err-write_picture.ensures.write_failed)
