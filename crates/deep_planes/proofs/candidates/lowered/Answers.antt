use Rattle.std.proofs.Common.{ltb, get_or, ap, sym, subst, ◌∙◌, arith, w32, w64, Fits}
use Rattle.std.specs.Simd.Lanes.{sel_l}
use Rattle.std.proofs.Math.Nat.{min-le_right}
use Rattle.std.proofs.lemmas.Simd.{tops_compared, Each1-get_or}
use Rattle.shade.specs.Quotient.{IsQuotient}
use Rattle.gradients.proofs.Lanes.{chosen}
use Rattle.gradients.proofs.CandidateLanes.{lesser}
use Rattle.deep_planes.proofs.CandidateLanes.{less_by, less_by_are, lowered_is}
use Rattle.deep_planes.proofs.candidates.lowered.Goals as goal

pub returns-clause-length : goal.returns-clause-length
returns-clause-length c =
    let v = c.args.depths in
    let all = less_by_are v c.signs.result c.fits-depths.0 c.signs.ensures.length in
    rw (tops_compared w32 ltb (less_by v c.signs.result) v) ((chosen ltb (less_by v c.signs.result) v (less_by v c.signs.result) v all.long c.fits-depths.0 all.long c.fits-depths.0).long)

pub returns-clause-each : goal.returns-clause-each
returns-clause-each c i n d l bound near modulo =
    let v = c.args.depths in
    let all = less_by_are v c.signs.result c.fits-depths.0 c.signs.ensures.length in
    let few = Each1-get_or (Fits w32) v i 0 (omega (arith, c.fits-depths.0)) c.fits-depths.1 in
    let fits = Each1-get_or (Fits w64) c.args.rests i 0 (omega (arith, c.fits-rests.0)) c.fits-rests.1 in
    let same = ap (λ ms. get_or (sel_l ms (less_by v c.signs.result) v) i 0) (tops_compared w32 ltb (less_by v c.signs.result) v)
    ∙ (chosen ltb (less_by v c.signs.result) v (less_by v c.signs.result) v all.long c.fits-depths.0 all.long c.fits-depths.0).each i l
    ∙ lesser (get_or (less_by v c.signs.result) i 0) (get_or v i 0) in
    subst (IsQuotient n d) (sym same) (lowered_is n d (get_or v i 0) (get_or c.args.rests i 0) _ _ bound few.fits fits.fits (all.each i l) (c.signs.ensures.each i l) near modulo)

pub returns-clause-at_most : goal.returns-clause-at_most
returns-clause-at_most c i l =
    let v = c.args.depths in
    let all = less_by_are v c.signs.result c.fits-depths.0 c.signs.ensures.length in
    let same = ap (λ ms. get_or (sel_l ms (less_by v c.signs.result) v) i 0) (tops_compared w32 ltb (less_by v c.signs.result) v)
    ∙ (chosen ltb (less_by v c.signs.result) v (less_by v c.signs.result) v all.long c.fits-depths.0 all.long c.fits-depths.0).each i l
    ∙ lesser (get_or (less_by v c.signs.result) i 0) (get_or v i 0) in
    rw same (min-le_right _ _)
