use Rattle.std.proofs.Common.{◌<◌, get_or, ap, ◌∙◌, arith, bit_and, w16, Fits}
use Rattle.std.proofs.lemmas.Simd.{Each1-get_or}
use Rattle.gradients.proofs.Lanes.{itself, zipped}
use Rattle.lanes.proofs.LaneNumbers.{all_and}
use Rattle.lanes.proofs.lane_mask.both.Goals as goal

pub returns-clause-whole : goal.returns-clause-whole
returns-clause-whole c = (zipped bit_and c.args.m c.args.n _ _ (itself c.args.m c.fits-m.0) (itself c.args.n c.fits-n.0)).long

pub returns-clause-both : goal.returns-clause-both
returns-clause-both c i l e =
    let fits : get_or c.args.n i 0 < 65536 = (Each1-get_or (Fits w16) c.args.n i 0 (omega (arith, c.fits-n.0)) c.fits-n.1).fits in
    (zipped bit_and c.args.m c.args.n _ _ (itself c.args.m c.fits-m.0) (itself c.args.n c.fits-n.0)).each i l ∙ ap (λ x. bit_and x (get_or c.args.n i 0)) e ∙ all_and _ fits

pub returns-clause-neither : goal.returns-clause-neither
returns-clause-neither c i l e = (zipped bit_and c.args.m c.args.n _ _ (itself c.args.m c.fits-m.0) (itself c.args.n c.fits-n.0)).each i l ∙ ap (λ x. bit_and x (get_or c.args.n i 0)) e
