use Rattle.std.proofs.Common.{refl}
use Rattle.gradients.proofs.AttributePlanes.{least_first, least_second}
use Rattle.gradients.proofs.colour_planes.are_all_sure.Goals as goal

pub returns-clause-red : goal.returns-clause-red
returns-clause-red c h i l =
    rw (c.fractions.ensures.each i 24 l refl) at (least_first _ _ _ (c.least-red_green.ensures.each i l) (least_first _ _ _ (c.least.ensures.each i l) (c.are_sure.ensures h i l)))

pub returns-clause-green : goal.returns-clause-green
returns-clause-green c h i l =
    rw (c.fractions-2.ensures.each i 24 l refl) at (least_second _ _ _ (c.least-red_green.ensures.each i l) (least_first _ _ _ (c.least.ensures.each i l) (c.are_sure.ensures h i l)))

pub returns-clause-blue : goal.returns-clause-blue
returns-clause-blue c h i l =
    rw (c.fractions-3.ensures.each i 24 l refl) at (least_first _ _ _ (c.least-blue_alpha.ensures.each i l) (least_second _ _ _ (c.least.ensures.each i l) (c.are_sure.ensures h i l)))

pub returns-clause-alpha : goal.returns-clause-alpha
returns-clause-alpha c h i l =
    rw (c.fractions-4.ensures.each i 24 l refl) at (least_second _ _ _ (c.least-blue_alpha.ensures.each i l) (least_second _ _ _ (c.least.ensures.each i l) (c.are_sure.ensures h i l)))
