use Rattle.std.proofs.Common.{arith, rules, pos, ◌≡◌, ◌≤ℤ◌, slice_index, slice_index_or}
use Rattle.std.proofs.lemmas.Int.{ints}
use Rattle.grid.specs.Edge.{side}
use Rattle.gradients.proofs.Slopes.{slope_clockwise, slope_counterclockwise}
use Rattle.gradients.proofs.slope.Slope.of.Goals as goal

pub returns-then-area2-lt0 : goal.returns-then-area2-lt0
returns-then-area2-lt0 c =
    let first : slice_index_or c.args.values 0 0 ≡ slice_index c.args.values 0 = search rules in
    let g = c.growths-across.ensures in
    let t = c.args.t.now in
    let negative : side t.a t.b t.c ≤ℤ pos 0 = omega (arith, ints, c.area2.ensures.value, c.if-area2-lt0.true) in
    slope_counterclockwise t.a t.b t.c _ (slice_index c.args.values 1) (slice_index c.args.values 2) _ c.x-x.result c.y-y.result c.growths-across.result.0 c.growths-across.result.1 first c.x-x.ensures.value c.y-y.ensures.value c.x-x.ensures.in_band c.y-y.ensures.in_band g.across g.down negative g.growths

pub returns-else-area2-lt0 : goal.returns-else-area2-lt0
returns-else-area2-lt0 c =
    let first : slice_index_or c.args.values 0 0 ≡ slice_index c.args.values 0 = search rules in
    let g = c.growths-across.ensures in
    let t = c.args.t.now in
    let positive : pos 0 ≤ℤ side t.a t.b t.c = omega (arith, ints, c.area2.ensures.value, c.if-area2-lt0.false) in
    slope_clockwise t.a t.b t.c _ (slice_index c.args.values 1) (slice_index c.args.values 2) _ c.x-x.result c.y-y.result c.growths-across.result.0 c.growths-across.result.1 first c.x-x.ensures.value c.y-y.ensures.value c.x-x.ensures.in_band c.y-y.ensures.in_band g.across g.down positive g.growths
