use Rattle.std.proofs.Common.{get_or}
use Rattle.shade.proofs.Blended.{sum_small}
use Rattle.lanes.proofs.blend.over_lanes.Goals as goal

pub nearest_small_sum-requires : goal.nearest_small_sum-requires
nearest_small_sum-requires c i l =
    rw (c.product-p.ensures.value.each i l, c.product-r.ensures.value.each i l, c.inverse.ensures.each i l)
    (sum_small (get_or c.args.source i 0) (get_or c.args.alpha i 0) (get_or c.args.stored i 0) (c.requires.0.small i l) (c.requires.1.small i l) (c.requires.2.small i l))
