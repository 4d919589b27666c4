use Rattle.std.proofs.Common.{get_or, replicate, ap, ◌∙◌, bit_and, ◌%◌, ◌^◌}
use Rattle.std.proofs.lemmas.Nat.{and_mask}
use Rattle.gradients.proofs.Lanes.{itself, zipped, splat}
use Rattle.deep_planes.proofs.candidates.first_bytes.Goals as goal

pub returns-clause-length : goal.returns-clause-length
returns-clause-length c =
    let u = c.upper_halves.result in
    (zipped (λ x y. bit_and x y) u (replicate 16 255) _ _ (itself u c.upper_halves.ensures.length) (splat 255)).long

pub returns-clause-each : goal.returns-clause-each
returns-clause-each c i l =
    let u = c.upper_halves.result in
    (zipped (λ x y. bit_and x y) u (replicate 16 255) _ _ (itself u c.upper_halves.ensures.length) (splat 255)).each i l
    ∙ and_mask (get_or u i 0) 8 ∙ ap (λ m. m % 2 ^ 8) (c.upper_halves.ensures.each i l)
