use Rattle.std.proofs.Common.{◌≡◌, ap, ◌∙◌, sym, arith, rules}
use Rattle.std.proofs.lemmas.Int.{ints}
use Rattle.grid.specs.Position.{Position, right_of}
use Rattle.grid.specs.Triangle.{Covers}
use Rattle.worked_values.proofs.values.stepped.Goals as goal

same : (p q : Position) → p.x ≡ q.x → p.y ≡ q.y → p ≡ q
same p q e f = λ i. record { x = e i; y = f i }

pub step-requires : goal.step-requires
step-requires c =
    let next : c.in-Some.next ≡ right_of c.loop.p = same _ _
    (omega (arith, ints, c.in-Some.ensures.value.0, c.x.ensures.value, c.x.ensures.in_band)) (omega (arith, ints, c.in-Some.ensures.value.1, c.y.ensures.value, c.y.ensures.in_band)) in
    let covered : Covers c.args.t.now.a c.args.t.now.b c.args.t.now.c c.in-Some.next = c.covers-in-loop.ensures.0 (search rules) in
    rw (c.loop.invariant.0, c.loop.invariant.1, c.loop.invariant.2, c.loop.invariant.3, ← next) covered

pub loop-preserved : goal.loop-preserved
loop-preserved c =
    let next : c.in-Some.next ≡ right_of c.loop.p = same _ _
    (omega (arith, ints, c.in-Some.ensures.value.0, c.x.ensures.value, c.x.ensures.in_band)) (omega (arith, ints, c.in-Some.ensures.value.1, c.y.ensures.value, c.y.ensures.in_band)) in (
      ap (λ r. r.a) c.step.ensures ∙ c.loop.invariant.0,
      ap (λ r. r.b) c.step.ensures ∙ c.loop.invariant.1,
      ap (λ r. r.c) c.step.ensures ∙ c.loop.invariant.2,
      ap (λ r. r.p) c.step.ensures ∙ ap (λ p. right_of p) c.loop.invariant.3 ∙ sym next,
    )
