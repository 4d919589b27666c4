use Rattle.std.proofs.Common.{inr, ◌≤◌, arith}
use Rattle.checks.proofs.Checking.{passes_as, fails_as}
use Rattle.batch.specs.Causes.{number_of}
use Rattle.batch.specs.States.{state_checks}
use Rattle.canvas_c.proofs.polygon_arrays.PolygonArrays.check_known.Goals as goal

pub returns-in-Ok : goal.returns-in-Ok
returns-in-Ok c =
    let a = c.args.self.now in
    let rule : a.fill_rule ≤ 1 = omega arith in
    ((rule, passes_as number_of (state_checks a.state) c.in-Ok.ensures.0), tt)

pub returns-in-Err : goal.returns-in-Err
returns-in-Err c =
    let a = c.args.self.now in
    let rule : a.fill_rule ≤ 1 = omega arith in
    rw c.number.ensures (inr (rule, fails_as number_of (state_checks a.state) c.in-Err.cause c.in-Err.ensures))
