use Rattle.std.proofs.Common.{rules, refl, FitsSigned, w32}
use Rattle.std.proofs.lemmas.Int.{to_z-of_z}
use Rattle.std.proofs.lemmas.Bool.{false≢true}
use Rattle.canvas_c.proofs.weights.triangle_of.Goals as goal

pub returns-clause-some : goal.returns-clause-some
returns-clause-some c =
    let t = c.args.corners.now in
    let ax : FitsSigned w32 t.ax = search rules in
    let ay : FitsSigned w32 t.ay = search rules in
    let bx : FitsSigned w32 t.bx = search rules in
    let by : FitsSigned w32 t.by = search rules in
    let cx : FitsSigned w32 t.cx = search rules in
    let cy : FitsSigned w32 t.cy = search rules in
    let first = rw (to_z-of_z w32 t.ax ax, to_z-of_z w32 t.ay ay) at c.in_ok-a.ensures.some.0 refl in
    let second = rw (to_z-of_z w32 t.bx bx, to_z-of_z w32 t.by by) at c.in_ok-b.ensures.some.0 refl in
    let third = rw (to_z-of_z w32 t.cx cx, to_z-of_z w32 t.cy cy) at c.in_ok-c.ensures.some.0 refl in
    ((λ is. record { ax = first.0; ay = first.1; bx = second.0; by = second.1; cx = third.0; cy = third.1 }), (λ are. refl))

pub returns-in_err-c-clause-some : goal.returns-in_err-c-clause-some
returns-in_err-c-clause-some c =
    let t = c.args.corners.now in
    let cx : FitsSigned w32 t.cx = search rules in
    let cy : FitsSigned w32 t.cy = search rules in
    let none = rw (to_z-of_z w32 t.cx cx, to_z-of_z w32 t.cy cy) at c.in_err-c.ensures.some.1 in
    ((λ is. absurd (false≢true (rw c.from_residual-in_err-c.ensures at is))), (λ are. absurd (false≢true (none (are.cx, are.cy)))))
