use Rattle.std.proofs.Common.{ℕ, ◌+◌, ◌/◌, ◌%◌, ◌*◌, ◌^◌, List, [], ◌∷◌, get_or, pos, rules, FitsSigned, w64}
use lib.Lanes.{zip2}
use Rattle.gradients.specs.declared.plane.Plane as gradients
use Rattle.deep_planes.specs.Plane.{IsIncrementOf}
use Rattle.gradients.proofs.Lanes.{sixteen}
use Rattle.gradients.proofs.FixedPoint.{passed, nothing, grown}
use Rattle.deep_planes.proofs.plane.Plane.parts.Goals as goal

pub returns-clause-each : goal.returns-clause-each
returns-clause-each c =
    let p = c.args.self.now in
    let q : gradients.Plane = record { start = p.start; across = p.across; down = p.down } in
    let across : FitsSigned w64 p.across = search rules in
    let down : FitsSigned w64 p.down = search rules in
    let none = nothing p.across in
    let one = passed (pos 256) p.across c.scaled-one.result across c.scaled-one.ensures in
    let two = passed (pos 512) p.across c.scaled-two.result across c.scaled-two.ensures in
    let three = passed (pos 768) p.across c.scaled-three.result across c.scaled-three.ensures in
    let four = passed (pos 1024) p.across c.scaled-four.result across c.scaled-four.ensures in
    let here = nothing p.down in
    let below = passed (pos 256) p.down c.scaled-below.result down c.scaled-below.ensures in
    let a = c.scaled-one.result in
    let b = c.scaled-two.result in
    let d = c.scaled-three.result in
    let f = c.scaled-four.result in
    let r = c.scaled-below.result in
    let add : List ℕ → List ℕ → List ℕ = zip2 (λ m n. (m + n) % 2 ^ 64) in
    let columns : List ℕ = 0 ∷ a ∷ b ∷ d ∷ 0 ∷ a ∷ b ∷ d ∷ 0 ∷ a ∷ b ∷ d ∷ 0 ∷ a ∷ b ∷ d ∷ [] in
    let fours : List ℕ = 0 ∷ 0 ∷ 0 ∷ 0 ∷ f ∷ f ∷ f ∷ f ∷ 0 ∷ 0 ∷ 0 ∷ 0 ∷ f ∷ f ∷ f ∷ f ∷ [] in
    let rows : List ℕ = 0 ∷ 0 ∷ 0 ∷ 0 ∷ 0 ∷ 0 ∷ 0 ∷ 0 ∷ r ∷ r ∷ r ∷ r ∷ r ∷ r ∷ r ∷ r ∷ [] in
    let sum = add (add columns fours) rows in
    sixteen (λ i. IsIncrementOf p (pos (256 * (i % 8))) (pos (256 * (i / 8))) (get_or sum i 0))
    (grown q (pos 0) (pos 0) (pos 0) _ _ _ none none here) (grown q (pos 256) (pos 0) (pos 0) _ _ _ one none here) (grown q (pos 512) (pos 0) (pos 0) _ _ _ two none here) (grown q (pos 768) (pos 0) (pos 0) _ _ _ three none here)
    (grown q (pos 0) (pos 1024) (pos 0) _ _ _ none four here) (grown q (pos 256) (pos 1024) (pos 0) _ _ _ one four here) (grown q (pos 512) (pos 1024) (pos 0) _ _ _ two four here) (grown q (pos 768) (pos 1024) (pos 0) _ _ _ three four here)
    (grown q (pos 0) (pos 0) (pos 256) _ _ _ none none below) (grown q (pos 256) (pos 0) (pos 256) _ _ _ one none below) (grown q (pos 512) (pos 0) (pos 256) _ _ _ two none below) (grown q (pos 768) (pos 0) (pos 256) _ _ _ three none below)
    (grown q (pos 0) (pos 1024) (pos 256) _ _ _ none four below) (grown q (pos 256) (pos 1024) (pos 256) _ _ _ one four below) (grown q (pos 512) (pos 1024) (pos 256) _ _ _ two four below) (grown q (pos 768) (pos 1024) (pos 256) _ _ _ three four below)
