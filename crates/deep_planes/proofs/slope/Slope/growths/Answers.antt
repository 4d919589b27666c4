use Rattle.std.proofs.Common.{arith, slice_index, pos}
use Rattle.std.proofs.lemmas.Int.{ints}
use Rattle.gradients.proofs.Slopes.{growths_of, growth_is}
use Rattle.deep_planes.proofs.Slopes.{sum_is, sum_within}
use Rattle.deep_planes.proofs.slope.Slope.growths.Goals as goal

pub overflow_add-across : goal.overflow_add-across
overflow_add-across c = omega (arith, ints, c.growth.ensures.size, c.growth-2.ensures.size)

pub overflow_add-down : goal.overflow_add-down
overflow_add-down c = omega (arith, ints, c.growth-3.ensures.size, c.growth-4.ensures.size)

pub returns-clause-growths : goal.returns-clause-growths
returns-clause-growths c = λ p.
    let across = sum_is _ _ _ _ c.growth.ensures.size c.growth-2.ensures.size
    (growth_is _ (slice_index c.args.z 0) (slice_index c.args.z 1) c.y.result c.y-2.result _ _ c.y.ensures.in_band c.y-2.ensures.in_band c.y.ensures.value c.y-2.ensures.value c.growth.ensures.value)
    (growth_is _ (slice_index c.args.z 0) (slice_index c.args.z 2) c.y-3.result c.y-4.result _ _ c.y-3.ensures.in_band c.y-4.ensures.in_band c.y-3.ensures.value c.y-4.ensures.value c.growth-2.ensures.value) in
    let down = sum_is _ _ _ _ c.growth-3.ensures.size c.growth-4.ensures.size
    (growth_is _ (slice_index c.args.z 0) (slice_index c.args.z 1) c.x.result c.x-2.result _ _ c.x.ensures.in_band c.x-2.ensures.in_band c.x.ensures.value c.x-2.ensures.value c.growth-3.ensures.value)
    (growth_is _ (slice_index c.args.z 0) (slice_index c.args.z 2) c.x-3.result c.x-4.result _ _ c.x-3.ensures.in_band c.x-4.ensures.in_band c.x-3.ensures.value c.x-4.ensures.value c.growth-4.ensures.value) in
    rw (across, down) (growths_of c.args.t.now.a c.args.t.now.b c.args.t.now.c p (pos (slice_index c.args.z 0)) (pos (slice_index c.args.z 1)) (pos (slice_index c.args.z 2)))

pub returns-clause-across : goal.returns-clause-across
returns-clause-across c = sum_within _ _ c.growth.ensures.size c.growth-2.ensures.size

pub returns-clause-down : goal.returns-clause-down
returns-clause-down c = sum_within _ _ c.growth-3.ensures.size c.growth-4.ensures.size
