use Rattle.std.proofs.Common.{get_or, ap, ◌∙◌, arith, w64, Fits}
use Rattle.std.proofs.lemmas.Simd.{Each1-get_or}
use Rattle.std.proofs.lemmas.List.{map-id}
use Rattle.gradients.proofs.Lanes.{of_each}
use Rattle.gradients.proofs.CandidateLanes.{high_parts, high_parts_are}
use Rattle.deep_planes.proofs.candidates.upper_halves.Goals as goal

pub overflow_cast-result : goal.overflow_cast-result
overflow_cast-result c =
    let m = c.args.numbers in
    let all = high_parts_are m 32 c.fits-numbers.0 in
    of_each _ (high_parts m 32) all.long (λ k l.
    let fits = Each1-get_or (Fits w64) m k 0 (omega (arith, c.fits-numbers.0)) c.fits-numbers.1 in
    rw (all.each k l) (record { fits = omega (arith, fits.fits) }))

pub returns-clause-length : goal.returns-clause-length
returns-clause-length c = rw (map-id (high_parts c.args.numbers 32)) ((high_parts_are c.args.numbers 32 c.fits-numbers.0).long)

pub returns-clause-each : goal.returns-clause-each
returns-clause-each c i l = ap (λ v. get_or v i 0) (map-id (high_parts c.args.numbers 32)) ∙ (high_parts_are c.args.numbers 32 c.fits-numbers.0).each i l
