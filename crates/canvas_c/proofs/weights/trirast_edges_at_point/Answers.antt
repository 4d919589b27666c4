use Rattle.std.proofs.Common.{rules, inr, FitsSigned, w32}
use Rattle.std.proofs.lemmas.Int.{to_z-of_z}
use Rattle.canvas_c.proofs.weights.trirast_edges_at_point.Goals as goal

pub returns-in-Ok-clause-edges : goal.returns-in-Ok-clause-edges
returns-in-Ok-clause-edges c =
    let x : FitsSigned w32 c.args.x = search rules in
    let y : FitsSigned w32 c.args.y = search rules in
    λ zero. rw (to_z-of_z w32 c.args.x x, to_z-of_z w32 c.args.y y) at c.in-Ok.ensures.judged.1

pub returns-in-Err-clause-status : goal.returns-in-Err-clause-status
returns-in-Err-clause-status c =
    let x : FitsSigned w32 c.args.x = search rules in
    let y : FitsSigned w32 c.args.y = search rules in
    let first = rw (to_z-of_z w32 c.args.x x, to_z-of_z w32 c.args.y y) at c.in-Err.ensures.judged in
    inr (c.in-Err.failed, first, c.number.ensures.value)
