use Rattle.std.proofs.Common.{◌≡◌, ◌∷◌, [], ◌++◌, Some, map, IsTrue, is_some, sym, ap, ◌∙◌, arith, append_assoc}
use Rattle.std.proofs.lemmas.List.{map-append}
use Rattle.std.proofs.lemmas.List.Elements.{All-rest}
use Rattle.std.specs.Vec.Iter.{into_iter_items}
use Rattle.pool.proofs.answers.answers_of.Goals as goal

pub loop-place-preserved : goal.loop-place-preserved
loop-place-preserved g c =
    let at = c.loop-place in
    let steps = c.in-Some.ensures.steps in
    let answer = c.in-Some-place.answer in
    let rest = into_iter_items c.next.new.self in
    let here : c.in-Some.place ≡ Some answer = c.in-Some-place.is in (
      rw c.push_reserved.ensures.items
          (ap (λ l. l ++ rest) (map-append (λ x. Some x) at.answers.items (answer ∷ [])) ∙ append_assoc (map (λ x. Some x) at.answers.items) (Some answer ∷ []) rest
          ∙ ap (λ p. map (λ x. Some x) at.answers.items ++ p ∷ rest) (sym here) ∙ ap (λ l. map (λ x. Some x) at.answers.items ++ l) (sym steps.0) ∙ at.invariant.0),
      All-rest (λ place. IsTrue (is_some place)) c.in-Some.place rest (into_iter_items at.place-iterator) steps.0 at.invariant.1,
      omega (arith, c.push_reserved.ensures.len, c.push_reserved.ensures.capacity, steps.1, at.invariant.2),
    )
