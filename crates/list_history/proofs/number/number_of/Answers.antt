use Rattle.std.proofs.Common.{◌≡◌, ap, true, false, below_more}
use Rattle.std.proofs.lemmas.Bool.{eq-eqb}
use Rattle.draw_list.specs.declared.place.TrianglePlace.{TrianglePlace}
use Rattle.list_history.proofs.Numbers.{place-unique}
use Rattle.list_history.proofs.number.number_of.Goals as goal

pub loop-number-preserved : goal.loop-number-preserved
loop-number-preserved c = below_more _ _ c.loop-number.invariant (λ h.
    let same = place-unique c.args.list.now c.loop-number.number c.place.result c.args.place c.place.ensures h in
    let draw = eq-eqb c.place.result.draw c.args.place.draw (ap (λ (p : TrianglePlace). p.draw) same) in
    let triangle = eq-eqb c.place.result.triangle c.args.place.triangle (ap (λ (p : TrianglePlace). p.triangle) same) in
    let bad : false ≡ true = rw (draw, triangle) at c.if-eq.ensures in
    absurd (cc))
