use Rattle.std.proofs.Common.{rules, refl, inl, inr, FitsSigned, w32}
use Rattle.std.proofs.lemmas.Int.{to_z-of_z}
use Rattle.std.proofs.lemmas.Bool.{false≢true}
use Rattle.canvas_c.proofs.weights.edges_at.Goals as goal

pub returns-in_default-new : goal.returns-in_default-new
returns-in_default-new c =
    let x : FitsSigned w32 c.args.x = search rules in
    let y : FitsSigned w32 c.args.y = search rules in
    let none = rw (to_z-of_z w32 c.args.x x, to_z-of_z w32 c.args.y y) at c.in_default-new.ensures.some.1 in
    record { judged = inr (c.in-Some.ensures.some.0 refl, inl ((λ in_band. false≢true (none in_band)), refl)) }

pub returns : goal.returns
returns c =
    let x : FitsSigned w32 c.args.x = search rules in
    let y : FitsSigned w32 c.args.y = search rules in
    let place = rw (to_z-of_z w32 c.args.x x, to_z-of_z w32 c.args.y y) at c.in-Some-new.ensures.some.0 refl in
    record { judged = ((c.in-Some.ensures.some.0 refl, (place, record {})), rw (c.in-Some.ensures.value, c.in-Some-new.ensures.value.0, c.in-Some-new.ensures.value.1, to_z-of_z w32 c.args.x x, to_z-of_z w32 c.args.y y) at c.edges_of.ensures) }
