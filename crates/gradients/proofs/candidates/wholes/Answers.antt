use Rattle.std.proofs.Common.{◌≡◌, ℕ, ◌/◌, ◌^◌, ◌<◌, List, length, get_or, replicate, ap, ◌∙◌, arith, w32, Fits}
use Rattle.std.proofs.lemmas.Simd.{Each1-get_or}
use Rattle.std.proofs.lemmas.List.{map-id}
use Rattle.std.specs.Simd.Lanes.{zip2, Each1}
use Rattle.gradients.specs.Lanes.{HasLanes}
use Rattle.gradients.proofs.Lanes.{itself, zipped, splat, of_each}
use Rattle.gradients.proofs.CandidateLanes.{whole_24, whole_fits}
use Rattle.gradients.proofs.candidates.wholes.Goals as goal

abbrev parts : List ℕ → ℕ → List ℕ
parts m bits = zip2 (λ x k. x / 2 ^ k) m (replicate 16 bits)

parts_are : (m : List ℕ) (bits : ℕ) → length m ≡ 16 → HasLanes (parts m bits) (λ k. get_or m k 0 / 2 ^ bits)
parts_are m bits p = zipped (λ x k. x / 2 ^ k) m (replicate 16 bits) _ _ (itself m p) (splat bits)

below : (m : List ℕ) → length m ≡ 16 → Each1 (Fits w32) m → (k : ℕ) → k < 16 → get_or m k 0 < 2 ^ 32
below m p fits k l = (Each1-get_or (Fits w32) m k 0 (omega arith) fits).fits

pub overflow_cast-result : goal.overflow_cast-result
overflow_cast-result c =
    let m = c.args.candidates in
    let all = parts_are m c.args.bits c.fits-candidates.0 in
    of_each _ (parts m c.args.bits) all.long (λ k l. rw (all.each k l) (record { fits = whole_fits _ c.args.bits (below m c.fits-candidates.0 c.fits-candidates.1 k l) c.requires }))

pub returns-clause-length : goal.returns-clause-length
returns-clause-length c = rw (map-id (parts c.args.candidates c.args.bits)) ((parts_are c.args.candidates c.args.bits c.fits-candidates.0).long)

pub returns-clause-each : goal.returns-clause-each
returns-clause-each c i l =
    ap (λ v. get_or v i 0) (map-id (parts c.args.candidates c.args.bits)) ∙ (parts_are c.args.candidates c.args.bits c.fits-candidates.0).each i l

pub returns-clause-bytes : goal.returns-clause-bytes
returns-clause-bytes c e =
    let m = c.args.candidates in
    let all = parts_are m c.args.bits c.fits-candidates.0 in
    rw (map-id (parts m c.args.bits)) (of_each _ (parts m c.args.bits) all.long (λ k l. rw (all.each k l) (whole_24 _ c.args.bits (below m c.fits-candidates.0 c.fits-candidates.1 k l) e)))
