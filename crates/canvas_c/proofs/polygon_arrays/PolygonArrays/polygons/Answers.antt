use Rattle.std.proofs.Common.{inl, refl}
use Rattle.checks.specs.Checking.{FirstIs}
use Rattle.checks.proofs.Checking.{only_allocation}
use Rattle.canvas_c.specs.PolygonChecks.{known_checks}
use Rattle.canvas_c.proofs.polygon_arrays.PolygonArrays.polygons.Goals as goal

pub returns-in-Err-clause-wrong : goal.returns-in-Err-clause-wrong
returns-in-Err-clause-wrong c =
    let a = c.args.self.now in
    let first : FirstIs (known_checks a) c.in-Err.cause = c.in-Err.ensures in
    rw c.of_all.ensures ((λ good. only_allocation (λ fault. ⊥) (known_checks a) c.in-Err.cause (record {}) first good.known), inl (c.in-Err.cause, first, refl))
