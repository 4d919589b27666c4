use Rattle.std.proofs.Common.{◌≡◌, ap, subst, ◌∙◌, arith, rules, ◌+◌, ◌*◌, ◌≤◌, length, length-set}
use Rattle.std.specs.List.{All}
use Rattle.polygons.specs.Arrays.{first_corner}
use Rattle.polygons.specs.Rings.{IsInClosedExtent, corners_between}
use Rattle.polygons.proofs.BoxesOfPolygons.{all_corners, all_joined, corners_rise, corners_within, enough_runs, last_corner, one_run_more}
use Rattle.polygons.proofs.polygon_runs.PolygonRuns.of.Goals as goal

pub offset_bounds-corners-corner : goal.offset_bounds-corners-corner
offset_bounds-corners-corner c =
    let polygon = c.loop-run.polygon in
    let v = c.loop-run.invariant in
    let within = corners_within c.args.corners.now c.args.ring_ends.now c.args.polygon_ends.now c.requires.rings c.requires.polygons polygon (omega (arith, v.polygon)) in
    let fits : c.loop-run.corner ≤ length c.args.corners.now = omega (arith, v.corner, within) in
    search rules

pub slice_bounds-of-count : goal.slice_bounds-of-count
slice_bounds-of-count c =
    let v = c.loop-run.invariant in
    let rises = corners_rise c.args.corners.now c.args.ring_ends.now c.args.polygon_ends.now c.requires.rings c.requires.polygons c.loop-run.polygon c.min-polygon.result (omega (arith, v.polygon, c.min-polygon.ensures)) (omega (arith, c.min-polygon.ensures)) in
    omega (arith, v.corner, c.first_corner-behind.ensures, rises)

pub slice_bounds-of-start : goal.slice_bounds-of-start
slice_bounds-of-start c =
    let v = c.loop-run.invariant in
    let rises = corners_rise c.args.corners.now c.args.ring_ends.now c.args.polygon_ends.now c.requires.rings c.requires.polygons c.loop-run.polygon c.min-polygon.result (omega (arith, v.polygon, c.min-polygon.ensures)) (omega (arith, c.min-polygon.ensures)) in
    let from : c.loop-run.corner ≤ c.first_corner-behind.result = omega (arith, v.corner, c.first_corner-behind.ensures, rises) in
    search rules

pub slice_bounds-of-end : goal.slice_bounds-of-end
slice_bounds-of-end c =
    let within = corners_within c.args.corners.now c.args.ring_ends.now c.args.polygon_ends.now c.requires.rings c.requires.polygons c.min-polygon.result (omega (arith, c.min-polygon.ensures)) in
    let fits : c.first_corner-behind.result ≤ length c.args.corners.now = omega (arith, c.first_corner-behind.ensures, within) in
    search rules

pub loop-run-preserved : goal.loop-run-preserved
loop-run-preserved c =
    let corners = c.args.corners.now in
    let ring_ends = c.args.ring_ends.now in
    let polygon_ends = c.args.polygon_ends.now in
    let rings = c.requires.rings in
    let polygons = c.requires.polygons in
    let first = c.loop-run.polygon in
    let end = c.min-polygon.result in
    let run = c.loop-run.run in
    let n = c.max-length.result in
    let v = c.loop-run.invariant in
    let sum : (run + 1) * n ≡ run * n + n = grind arith in
    let rises = corners_rise corners ring_ends polygon_ends rings polygons first end (omega (arith, v.polygon, c.min-polygon.ensures)) (omega (arith, c.min-polygon.ensures)) in
    let from : All (IsInClosedExtent c.of-extent.result) (corners_between corners (first_corner ring_ends polygon_ends first) c.first_corner-behind.result) = subst (λ b. All (IsInClosedExtent c.of-extent.result) (corners_between corners b c.first_corner-behind.result)) v.corner c.of-extent.ensures.held in
    let here : All (IsInClosedExtent c.of-extent.result) (corners_between corners (first_corner ring_ends polygon_ends first) (first_corner ring_ends polygon_ends end)) =
    subst (λ b. All (IsInClosedExtent c.of-extent.result) (corners_between corners (first_corner ring_ends polygon_ends first) b)) c.first_corner-behind.ensures from in
    record {
      many = length-set c.loop-run.boxes run c.of-extent.result ∙ v.many;
      polygon = omega (arith, v.polygon, c.min-polygon.ensures, sum);
      corner = c.first_corner-behind.ensures;
      held = one_run_more corners ring_ends polygon_ends rings polygons c.loop-run.boxes n run first end c.of-extent.result (omega (arith, c.max-length.ensures)) (omega (arith, v.many, c.loop-run-test.true)) v.polygon c.min-polygon.ensures here v.held;
      all = all_joined corners c.loop-run.corner c.first_corner-behind.result c.loop-run.all c.of-extent.result c.joined-all.result (omega (arith, v.corner, c.first_corner-behind.ensures, rises)) c.joined-all.ensures.first c.joined-all.ensures.second v.all c.of-extent.ensures.held;
    }

pub returns-clause-held : goal.returns-clause-held
returns-clause-held c k l =
    let enough = enough_runs (length c.args.polygon_ends.now) c.max-length.result (omega (arith, c.max-length.ensures, c.div_ceil.ensures)) in
    let past : 64 ≤ c.loop-run.run = omega (arith, c.loop-run-test.false) in
    let more : 64 * c.max-length.result ≤ c.loop-run.run * c.max-length.result = grind (arith, past) in
    c.loop-run.invariant.held k (omega (arith, l, enough, more, c.loop-run.invariant.polygon))

pub returns-clause-corners : goal.returns-clause-corners
returns-clause-corners c =
    let corners = c.args.corners.now in
    let ring_ends = c.args.ring_ends.now in
    let polygon_ends = c.args.polygon_ends.now in
    let v = c.loop-run.invariant in
    let enough = enough_runs (length polygon_ends) c.max-length.result (omega (arith, c.max-length.ensures, c.div_ceil.ensures)) in
    let past : 64 ≤ c.loop-run.run = omega (arith, c.loop-run-test.false) in
    let more : 64 * c.max-length.result ≤ c.loop-run.run * c.max-length.result = grind (arith, past) in
    let whole : c.loop-run.polygon ≡ length polygon_ends = omega (arith, enough, more, v.polygon) in
    let end : c.loop-run.corner ≡ length corners = v.corner ∙ ap (first_corner ring_ends polygon_ends) whole ∙ last_corner corners ring_ends polygon_ends c.requires.rings c.requires.polygons in
    all_corners corners c.loop-run.all c.loop-run.corner end v.all
