use Rattle.std.proofs.Common.{◌∙◌, arith, Fits, get_or, replicate, w16}
use Rattle.std.proofs.lemmas.Simd.{Each1-get_or}
use Rattle.polygons.proofs.Sixteen.{itself, splat, zipped, difference16, exact_difference}
use Rattle.polygons.proofs.short_lanes.lessened.Goals as goal

pub returns-clause-length : goal.returns-clause-length
returns-clause-length c = (zipped difference16 c.args.numbers (replicate 16 1) _ _ (itself c.args.numbers c.fits-numbers.0) (splat 1)).long

pub returns-clause-each : goal.returns-clause-each
returns-clause-each c s l some =
    let fits = Each1-get_or (Fits w16) c.args.numbers s 0 (omega (arith, l, c.fits-numbers.0)) c.fits-numbers.1 in
    let small = fits.fits in
    (zipped difference16 c.args.numbers (replicate 16 1) _ _ (itself c.args.numbers c.fits-numbers.0) (splat 1)).each s l
    ∙ exact_difference (get_or c.args.numbers s 0) 1 (omega (arith, small)) (omega (arith, some))
