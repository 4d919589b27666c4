use Rattle.std.proofs.Common.{Some, None, refl}
use Rattle.std.proofs.lemmas.Result.{err_from_is_err_and}
use Rattle.serde_json.specs.View.{view}
use Rattle.checking_reader.specs.Given.{given_triangles, given_strip, given_quads}
use Rattle.checking_reader.proofs.Parts.{parts_answer}
use Rattle.checking_reader.proofs.Memory.{array_passed}
use Rattle.checking_reader.proofs.draw.parts.Goals as goal

pub returns-in_err-primitives-clause-reported : goal.returns-in_err-primitives-clause-reported
returns-in_err-primitives-clause-reported c =
    let given = c.args.given in
    let vertices = c.in_ok-vertices.ensures.reported in
    let p = err_from_is_err_and c.from_residual-in_err-primitives.result c.from_residual-in_err-primitives.ensures.1 in
    rw (p.1, p.2) (λ other. parts_answer c.args.earlier (Some (view c.args.vertex_array.now)) (given_triangles given) (given_strip given) (given_quads given) c.in_ok-vertices.vertices.items (Some _) vertices.0 vertices.1 (rw c.deref.ensures.value at (c.in_err-primitives.ensures.reported other)))

pub returns-clause-reported : goal.returns-clause-reported
returns-clause-reported c =
    let given = c.args.given in
    let vertices = c.in_ok-vertices.ensures.reported in
    let primitives = rw c.deref.ensures.value at c.in_ok-primitives.ensures.reported in (
      parts_answer c.args.earlier (Some (view c.args.vertex_array.now)) (given_triangles given) (given_strip given) (given_quads given) c.in_ok-vertices.vertices.items None vertices.0 vertices.1 primitives.0,
      (vertices.1, primitives.1),
    )

pub returns-in_err-primitives-clause-memory : goal.returns-in_err-primitives-clause-memory
returns-in_err-primitives-clause-memory c =
    let p = err_from_is_err_and c.from_residual-in_err-primitives.result c.from_residual-in_err-primitives.ensures.1 in
    rw (p.1, p.2) (λ _. array_passed (Some (view c.args.vertex_array.now)) refl c.in_ok-vertices.ensures.reported.0)
