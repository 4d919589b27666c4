use Rattle.std.proofs.Common.{rules, ℕ, ℤ, List, Result, Ok, length}
use Rattle.std.specs.Prelude.{⊤}
use Rattle.checks.specs.Checking.{Checks, IsJudged, Pass, followed_by}
use Rattle.checks.proofs.Checking.{fails_before, fails_later}
use Rattle.batch.specs.declared.fault.DrawFault.{DrawFault}
use Rattle.batch.specs.declared.vertex.BatchVertex.{BatchVertex}
use Rattle.batch.specs.Listed.{primitives_listed}
use Rattle.batch.specs.Checks.{index_checks, position_checks, quad_checks, element_checks}
use Rattle.batch.proofs.Elements.{judged_later}
use Rattle.batch.proofs.checking.check_elements.Goals as goal

pub returns-in-Err : goal.returns-in-Err
returns-in-Err g c =
    let origin = c.args.origin.now in
    let vertices = g.V.Vertices.listed c.args.vertices.now in
    let indices = g.I.Indices.listed c.args.indices.now in
    let quads : Checks DrawFault = quad_checks origin.x origin.y vertices (primitives_listed c.args.topology indices) in
    fails_before (index_checks (length vertices) indices) (followed_by (position_checks origin.x origin.y vertices indices) quads) c.in-Err.fault (rw c.count.ensures at c.in-Err.ensures)

pub returns-in-Err-check_positions : goal.returns-in-Err-check_positions
returns-in-Err-check_positions g c =
    let origin = c.args.origin.now in
    let vertices = g.V.Vertices.listed c.args.vertices.now in
    let indices = g.I.Indices.listed c.args.indices.now in
    let positions : Checks DrawFault = position_checks origin.x origin.y vertices indices in
    let quads : Checks DrawFault = quad_checks origin.x origin.y vertices (primitives_listed c.args.topology indices) in
    let fault = c.in-Err-check_positions.fault in
    fails_later (index_checks (length vertices) indices) (followed_by positions quads) fault (rw c.count.ensures at c.in_default.ensures.0) (fails_before positions quads fault c.in-Err-check_positions.ensures)

-- if the indices and the positions pass, the checks of the quads say what all these checks say
all_judged : (x y : ℤ) (vertices : List BatchVertex) (topology : ℕ) (indices : List ℕ) (r : Result ⊤ DrawFault) → Pass (index_checks (length vertices) indices) → Pass (position_checks x y vertices indices) → IsJudged (quad_checks x y vertices (primitives_listed topology indices)) (λ done. ⊤) r
    → IsJudged (element_checks x y vertices topology indices) (λ done. ⊤) r
all_judged x y vertices topology indices r named seen judged =
    let quads : Checks DrawFault = quad_checks x y vertices (primitives_listed topology indices) in
    judged_later (index_checks (length vertices) indices) (followed_by (position_checks x y vertices indices) quads) r named (judged_later (position_checks x y vertices indices) quads r seen judged)

pub returns-in-0 : goal.returns-in-0
returns-in-0 g c =
    all_judged c.args.origin.now.x c.args.origin.now.y (g.V.Vertices.listed c.args.vertices.now) c.args.topology (g.I.Indices.listed c.args.indices.now) (Ok tt) (rw c.count.ensures at c.in_default.ensures.0) c.in_default-check_positions.ensures.0 (rw c.in-0.is (tt, tt))

pub returns-in-1 : goal.returns-in-1
returns-in-1 g c =
    all_judged c.args.origin.now.x c.args.origin.now.y (g.V.Vertices.listed c.args.vertices.now) c.args.topology (g.I.Indices.listed c.args.indices.now) (Ok tt) (rw c.count.ensures at c.in_default.ensures.0) c.in_default-check_positions.ensures.0 (rw c.in-1.is (tt, tt))

pub returns-in_default-topology : goal.returns-in_default-topology
returns-in_default-topology g c =
    all_judged c.args.origin.now.x c.args.origin.now.y (g.V.Vertices.listed c.args.vertices.now) c.args.topology (g.I.Indices.listed c.args.indices.now) c.check_each_quad.result (rw c.count.ensures at c.in_default.ensures.0) c.in_default-check_positions.ensures.0 (search rules)
