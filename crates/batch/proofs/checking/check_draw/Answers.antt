use Rattle.std.proofs.Common.{◌≡◌, subst, inr, ℕ, ℤ, ◌≤◌, List, Option, Result, length, arith}
use Rattle.std.specs.Prelude.{⊤, take}
use Rattle.checks.specs.Checking.{IsJudged, Pass, reported_as}
use Rattle.checks.proofs.Checking.{passes_as, fails_as, fails_before}
use Rattle.batch.specs.declared.draw.BatchDraw.{BatchDraw}
use Rattle.batch.specs.declared.fault.DrawFault.{DrawFault}
use Rattle.batch.specs.declared.vertex.BatchVertex.{BatchVertex}
use Rattle.batch.specs.Causes.{of_draw}
use Rattle.batch.specs.Checks.{opening_checks, primitives_checks, draw_checks}
use Rattle.batch.specs.OwnIndices.{indices_given, count_of_indices, own_indices}
use Rattle.batch.specs.States.{state_checks}
use Rattle.batch.proofs.Elements.{judged_later}
use Rattle.batch.proofs.checking.check_draw.Goals as goal

pub returns-in-Err : goal.returns-in-Err
returns-in-Err g c =
    let d = c.args.draw.now in
    let origin = c.args.origin.now in
    let vertices = g.V.Vertices.listed c.args.vertices.now in
    let indices = indices_given c.args.indices.now in
    let few : d.vertices ≤ length vertices = omega arith in
    let fewer : d.indices ≤ count_of_indices indices = omega arith in
    let later = primitives_checks origin.x origin.y c.args.ids (take d.vertices vertices) d.topology (own_indices d indices) in
    rw c.of_draw-in-Err.ensures (inr (few, inr (fewer, fails_before (reported_as of_draw (state_checks d)) later (of_draw c.in-Err.cause) (fails_as of_draw (state_checks d) c.in-Err.cause c.in-Err.ensures))))

-- if the checks before them pass, the checks of its primitives say what all checks of the draw say
all_judged : (x y : ℤ) (ids : Option ℕ) (d : BatchDraw) (vertices own : List BatchVertex) (indices : Option (List ℕ)) (r : Result ⊤ DrawFault) → d.vertices ≤ length vertices → d.indices ≤ count_of_indices indices → Pass (state_checks d) → own ≡ take d.vertices vertices
    → IsJudged (primitives_checks x y ids own d.topology (own_indices d indices)) (λ done. ⊤) r → IsJudged (draw_checks x y ids d vertices indices) (λ done. ⊤) r
all_judged x y ids d vertices own indices r few fewer state first judged =
    judged_later (opening_checks d vertices indices) (primitives_checks x y ids (take d.vertices vertices) d.topology (own_indices d indices)) r (few, (fewer, passes_as of_draw (state_checks d) state))
    (subst (λ vs. IsJudged (primitives_checks x y ids vs d.topology (own_indices d indices)) (λ done. ⊤) r) first judged)

pub returns-in-Words : goal.returns-in-Words
returns-in-Words g c =
    all_judged c.args.origin.now.x c.args.origin.now.y c.args.ids c.args.draw.now (g.V.Vertices.listed c.args.vertices.now) _ (indices_given c.args.indices.now) c.check_primitives.result (omega arith) (omega arith) c.in_default.ensures.0 c.first-vertices.ensures.value (rw c.in-Words.is c.check_primitives.ensures)

pub returns-in-Halves : goal.returns-in-Halves
returns-in-Halves g c =
    all_judged c.args.origin.now.x c.args.origin.now.y c.args.ids c.args.draw.now (g.V.Vertices.listed c.args.vertices.now) _ (indices_given c.args.indices.now) c.check_primitives-in-Halves.result (omega arith) (omega arith) c.in_default.ensures.0 c.first-vertices.ensures.value (rw c.in-Halves.is c.check_primitives-in-Halves.ensures)

pub returns-in-InOrder : goal.returns-in-InOrder
returns-in-InOrder g c =
    all_judged c.args.origin.now.x c.args.origin.now.y c.args.ids c.args.draw.now (g.V.Vertices.listed c.args.vertices.now) _ (indices_given c.args.indices.now) c.check_primitives-in-InOrder.result (omega arith) (omega arith) c.in_default.ensures.0 c.first-vertices.ensures.value (rw c.in-InOrder.is c.check_primitives-in-InOrder.ensures)
