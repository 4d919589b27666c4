use Rattle.std.proofs.Common.{leb, get_or, replicate, ap, ◌∙◌, arith, w16}
use Rattle.std.proofs.lemmas.Simd.{tops_compared}
use Rattle.std.specs.Simd.Lanes.{sel_l}
use Rattle.gradients.proofs.Lanes.{itself, chosen, splat}
use Rattle.lanes.proofs.Lanes.{high_chosen}
use Rattle.lanes.proofs.lane_mask.choose.Goals as goal

pub returns-clause-whole : goal.returns-clause-whole
returns-clause-whole c =
    rw (tops_compared w16 leb (replicate 16 32768) c.args.m) ((chosen leb (replicate 16 32768) c.args.m c.args.yes c.args.no (splat 32768).long c.fits-m.0 c.fits-yes.0 c.fits-no.0).long)

pub returns-clause-set : goal.returns-clause-set
returns-clause-set c i l e =
    ap (λ ms. get_or (sel_l ms c.args.yes c.args.no) i 0) (tops_compared w16 leb (replicate 16 32768) c.args.m)
    ∙ (high_chosen c.args.m c.args.yes c.args.no _ 32768 65535 (omega arith) (omega arith) (itself c.args.m c.fits-m.0) c.fits-yes.0 c.fits-no.0 i l).0 e

pub returns-clause-clear : goal.returns-clause-clear
returns-clause-clear c i l e =
    ap (λ ms. get_or (sel_l ms c.args.yes c.args.no) i 0) (tops_compared w16 leb (replicate 16 32768) c.args.m)
    ∙ (high_chosen c.args.m c.args.yes c.args.no _ 32768 65535 (omega arith) (omega arith) (itself c.args.m c.fits-m.0) c.fits-yes.0 c.fits-no.0 i l).1 e
