use Rattle.std.proofs.Common.{arith, rules, pos, ◌≡◌, ◌≤◌, ◌^◌, ◌≤ℤ◌, slice_index, slice_index_or}
use Rattle.std.proofs.lemmas.Int.{ints}
use Rattle.std.specs.Int.RustNames.{unsigned_abs}
use Rattle.grid.specs.Edge.{side}
use Rattle.deep_planes.proofs.Slopes.{slope_clockwise, slope_counterclockwise}
use Rattle.deep_planes.proofs.slope.Slope.of.Goals as goal

pub returns-then-doubled-lt0-clause-slope : goal.returns-then-doubled-lt0-clause-slope
returns-then-doubled-lt0-clause-slope c =
    let first : slice_index_or c.args.z 0 0 ≡ slice_index c.args.z 0 = search rules in
    let g = c.growths-across.ensures in
    let t = c.args.t.now in
    let e : c.unsigned_abs-area.result ≡ unsigned_abs (side t.a t.b t.c) = omega (arith, ints, c.unsigned_abs-area.ensures.value, c.area2-doubled.ensures.value, c.area2-doubled.ensures.size) in
    let bound : c.unsigned_abs-area.result ≤ 2 ^ 48 = omega (arith, ints, c.unsigned_abs-area.ensures.value, c.area2-doubled.ensures.size) in
    let negative : side t.a t.b t.c ≤ℤ pos 0 = omega (arith, ints, c.area2-doubled.ensures.value, c.if-doubled-lt0.true) in
    slope_counterclockwise t.a t.b t.c _ (slice_index c.args.z 1) (slice_index c.args.z 2) _ _ c.x-x.result c.y-y.result c.growths-across.result.0 c.growths-across.result.1 e bound first c.x-x.ensures.value c.y-y.ensures.value c.x-x.ensures.in_band c.y-y.ensures.in_band g.across g.down negative g.growths

pub returns-else-doubled-lt0-clause-slope : goal.returns-else-doubled-lt0-clause-slope
returns-else-doubled-lt0-clause-slope c =
    let first : slice_index_or c.args.z 0 0 ≡ slice_index c.args.z 0 = search rules in
    let g = c.growths-across.ensures in
    let t = c.args.t.now in
    let e : c.unsigned_abs-area.result ≡ unsigned_abs (side t.a t.b t.c) = omega (arith, ints, c.unsigned_abs-area.ensures.value, c.area2-doubled.ensures.value, c.area2-doubled.ensures.size) in
    let bound : c.unsigned_abs-area.result ≤ 2 ^ 48 = omega (arith, ints, c.unsigned_abs-area.ensures.value, c.area2-doubled.ensures.size) in
    let positive : pos 0 ≤ℤ side t.a t.b t.c = omega (arith, ints, c.area2-doubled.ensures.value, c.if-doubled-lt0.false) in
    slope_clockwise t.a t.b t.c _ (slice_index c.args.z 1) (slice_index c.args.z 2) _ _ c.x-x.result c.y-y.result c.growths-across.result.0 c.growths-across.result.1 e bound first c.x-x.ensures.value c.y-y.ensures.value c.x-x.ensures.in_band c.y-y.ensures.in_band g.across g.down positive g.growths
