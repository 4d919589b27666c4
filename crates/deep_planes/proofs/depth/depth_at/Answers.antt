use Rattle.std.proofs.Common.{slice_index, ◌+◌, ◌∙◌, arith}
use Rattle.deep_planes.proofs.Depths.{IsSum, sum_of, depth_of, depth_small}
use Rattle.deep_planes.proofs.depth.depth_at.Goals as goal

sum : (c : goal.After-from-area) → IsSum c.args.t.now.a c.args.t.now.b c.args.t.now.c c.args.p (slice_index c.args.z 0) (slice_index c.args.z 1) (slice_index c.args.z 2) (c.weighted.result + c.weighted-2.result + c.weighted-3.result) c.from-area.result
sum c =
    sum_of _ _ _ _ _ _ _ c.weight.result c.weight-2.result c.weight-3.result _ _ _ _ c.weight.ensures.value c.weight-2.ensures.value c.weight-3.ensures.value c.weighted.ensures.value c.weighted-2.ensures.value c.weighted-3.ensures.value (c.from-area.ensures ∙ c.weight-4.ensures.value)

pub overflow_cast-result : goal.overflow_cast-result
overflow_cast-result c =
    let small = depth_small _ _ _ _ _ _ _ _ _ c.requires c.element_fits.fits c.element_fits2.fits c.element_fits3.fits (sum c) in
    record { fits = omega (arith, small) }

pub returns-clause-depth : goal.returns-clause-depth
returns-clause-depth c = depth_of _ _ _ _ _ _ _ _ _ c.requires (sum c)

pub returns-clause-bits : goal.returns-clause-bits
returns-clause-bits c = depth_small _ _ _ _ _ _ _ _ _ c.requires c.element_fits.fits c.element_fits2.fits c.element_fits3.fits (sum c)
