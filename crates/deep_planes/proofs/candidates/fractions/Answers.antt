use Rattle.std.proofs.Common.{ℕ, List, length, get_or, replicate, ap, ◌∙◌, bit_and, arith, ◌≡◌, ◌/◌, ◌%◌, ◌^◌}
use Rattle.std.proofs.lemmas.Nat.{and_mask}
use Rattle.std.proofs.lemmas.List.{map-id}
use Rattle.gradients.specs.Lanes.{HasLanes}
use Rattle.gradients.proofs.Lanes.{splat, zipped, of_each}
use Rattle.gradients.proofs.CandidateLanes.{high_parts, high_parts_are}
use lib.Lanes.{zip2}
use Rattle.deep_planes.proofs.candidates.fractions.Goals as goal

abbrev masked : List ℕ → List ℕ
masked m = zip2 (λ x y. bit_and x y) (high_parts m 8) (replicate 16 4294967295)

masked_are : (m : List ℕ) → length m ≡ 16 → HasLanes (masked m) (λ k. get_or m k 0 / 2 ^ 8 % 2 ^ 32)
masked_are m long =
    let all = zipped (λ x y. bit_and x y) (high_parts m 8) (replicate 16 4294967295) _ _ (high_parts_are m 8 long) (splat 4294967295) in
    record { long = all.long; each = λ k l. all.each k l ∙ and_mask (get_or m k 0 / 2 ^ 8) 32 }

pub overflow_cast-result : goal.overflow_cast-result
overflow_cast-result c =
    let m = c.args.heights in
    let all = masked_are m c.fits-heights.0 in
    of_each _ (masked m) all.long (λ k l. rw (all.each k l) (record { fits = omega arith }))

pub returns-clause-length : goal.returns-clause-length
returns-clause-length c = rw (map-id (masked c.args.heights)) ((masked_are c.args.heights c.fits-heights.0).long)

pub returns-clause-each : goal.returns-clause-each
returns-clause-each c i l = ap (λ v. get_or v i 0) (map-id (masked c.args.heights)) ∙ (masked_are c.args.heights c.fits-heights.0).each i l
