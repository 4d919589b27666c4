use Rattle.std.proofs.Common.{◌/◌, get_or, ap, sym, subst, ◌∙◌, arith, rules, pos, ◌*◌, ◌%◌, w64, Fits}
use Rattle.std.proofs.lemmas.Simd.{Each1-get_or}
use Rattle.std.specs.Simd.Lanes.{Each1}
use Rattle.std.proofs.lemmas.List.{map-id}
use Rattle.gradients.specs.Plane.{IsHighPart}
use Rattle.gradients.proofs.Lanes.{of_each}
use Rattle.gradients.proofs.FixedPoint.{half_of}
use Rattle.gradients.proofs.CandidateLanes.{high_parts, high_parts_are}
use Rattle.gradients.proofs.plane.Plane.lanes.Goals as goal

pub overflow_cast-result : goal.overflow_cast-result
overflow_cast-result c =
    let m = c.parts.result in
    let all = high_parts_are m 32 c.parts.ensures.length in
    let each : Each1 (Fits w64) m = search rules in
    of_each _ (high_parts m 32) all.long (λ k l.
    let fits = Each1-get_or (Fits w64) m k 0 (omega (arith, c.parts.ensures.length)) each in
    rw (all.each k l) (record { fits = omega (arith, fits.fits) }))

pub returns-clause-length : goal.returns-clause-length
returns-clause-length c = rw (map-id (high_parts c.parts.result 32)) ((high_parts_are c.parts.result 32 c.parts.ensures.length).long)

pub returns-clause-each : goal.returns-clause-each
returns-clause-each c i l =
    let m = c.parts.result in
    let each : Each1 (Fits w64) m = search rules in
    let fits = Each1-get_or (Fits w64) m i 0 (omega (arith, c.parts.ensures.length)) each in
    let lane = ap (λ v. get_or v i 0) (map-id (high_parts m 32)) ∙ (high_parts_are m 32 c.parts.ensures.length).each i l in
    subst (IsHighPart c.args.self.now (pos (256 * (i % 8))) (pos (256 * (i / 8)))) (sym lane) (half_of c.args.self.now _ _ _ fits.fits (c.parts.ensures.each i l))
