use Rattle.std.proofs.Common.{inl, inr, ◌≡◌, ◌≢◌, sym, ap, subst, ◌∙◌, arith, rules, ℕ, ◌+◌, ◌<◌, ◌≤◌, List, [], length, set, get_or-set_same, get_or-set_other}
use Rattle.std.proofs.lemmas.Bool.{cases_lt}
use Rattle.std.proofs.lemmas.Result.{err_from_is_err_and}
use Rattle.polygons.specs.declared.corner.Corner.{Corner}
use Rattle.polygons.specs.declared.extent.Extent.{Extent}
use Rattle.polygons.specs.Arrays.{box_at, polygon_corners, first_corner, KeepsBoxesFrom}
use Rattle.polygons.specs.Rings.{corners_between, IsLeastExtent}
use Rattle.polygons.proofs.BoxesOfPolygons.{all_corners, all_joined, corners_rise, corners_within, last_corner}
use Rattle.polygons.proofs.arrays.measure.Goals as goal

-- one box more
least_more : (boxes : List Extent) (box : Extent) (corners : List Corner) (ring_ends polygon_ends : List ℕ) (polygon : ℕ) → polygon < length boxes → IsLeastExtent box (polygon_corners corners ring_ends polygon_ends polygon)
    → ((k : ℕ) → k < polygon → IsLeastExtent (box_at boxes k) (polygon_corners corners ring_ends polygon_ends k)) → (k : ℕ) → k < polygon + 1 → IsLeastExtent (box_at (set boxes polygon box) k) (polygon_corners corners ring_ends polygon_ends k)
least_more boxes box corners ring_ends polygon_ends polygon room here before k l = elim (cases_lt k polygon) [
  | inl less ↦
      let other : k ≢ polygon = λ e. omega (arith, e, less) in
      subst (λ (b : Extent). IsLeastExtent b (polygon_corners corners ring_ends polygon_ends k)) (sym (get_or-set_other boxes polygon k box _ other)) (before k less)
  | inr more ↦
      let same : polygon ≡ k = omega (arith, l, more) in
      subst (λ n. IsLeastExtent (box_at (set boxes polygon box) n) (polygon_corners corners ring_ends polygon_ends n)) same
      (subst (λ (b : Extent). IsLeastExtent b (polygon_corners corners ring_ends polygon_ends polygon)) (sym (get_or-set_same boxes polygon box _ room)) here)
]

-- boxes behind are unchanged
kept_behind : (old boxes : List Extent) (box : Extent) (polygon n : ℕ) → polygon < n → KeepsBoxesFrom n old boxes → KeepsBoxesFrom n old (set boxes polygon box)
kept_behind old boxes box polygon n less kept k l =
    let other : k ≢ polygon = λ e. omega (arith, e, less, l) in
    get_or-set_other boxes polygon k box _ other ∙ kept k l

pub returns-in_err-check_ends-clause-wrong : goal.returns-in_err-check_ends-clause-wrong
returns-in_err-check_ends-clause-wrong c =
    let p = err_from_is_err_and c.from_residual.result c.from_residual.ensures.1 in
    rw (p.1, p.2) (c.in_err-check_ends.ensures.wrong [])

pub slice_bounds-of-count : goal.slice_bounds-of-count
slice_bounds-of-count c =
    let ends = c.in_ok-check_ends.ensures in
    let polygon = c.loop-polygon.polygon in
    let rises = corners_rise c.args.corners.now c.args.ring_ends.now c.args.polygon_ends.now ends.rings ends.polygons polygon (polygon + 1) (omega arith) (omega (arith, c.loop-polygon-test.true)) in
    omega (arith, rises, c.loop-polygon.invariant.corner, c.first_corner-behind.ensures)

pub slice_bounds-of-start : goal.slice_bounds-of-start
slice_bounds-of-start c =
    let ends = c.in_ok-check_ends.ensures in
    let polygon = c.loop-polygon.polygon in
    let rises = corners_rise c.args.corners.now c.args.ring_ends.now c.args.polygon_ends.now ends.rings ends.polygons polygon (polygon + 1) (omega arith) (omega (arith, c.loop-polygon-test.true)) in
    let within = corners_within c.args.corners.now c.args.ring_ends.now c.args.polygon_ends.now ends.rings ends.polygons (polygon + 1) (omega (arith, c.loop-polygon-test.true)) in
    let from : c.loop-polygon.corner ≤ c.first_corner-behind.result = omega (arith, rises, c.loop-polygon.invariant.corner, c.first_corner-behind.ensures) in
    let fits : c.first_corner-behind.result ≤ length c.args.corners.now = omega (arith, c.first_corner-behind.ensures, within) in
    search rules

pub loop-polygon-preserved : goal.loop-polygon-preserved
loop-polygon-preserved c =
    let corners = c.args.corners.now in
    let ring_ends = c.args.ring_ends.now in
    let polygon_ends = c.args.polygon_ends.now in
    let ends = c.in_ok-check_ends.ensures in
    let polygon = c.loop-polygon.polygon in
    let v = c.loop-polygon.invariant in
    let rises = corners_rise corners ring_ends polygon_ends ends.rings ends.polygons polygon (polygon + 1) (omega arith) (omega (arith, c.loop-polygon-test.true)) in
    let from : c.loop-polygon.corner ≤ c.first_corner-behind.result = omega (arith, rises, v.corner, c.first_corner-behind.ensures) in
    let here : IsLeastExtent c.of-extent.result (polygon_corners corners ring_ends polygon_ends polygon) =
    subst (λ a. IsLeastExtent c.of-extent.result (corners_between corners a (first_corner ring_ends polygon_ends (polygon + 1)))) v.corner
    (subst (λ b. IsLeastExtent c.of-extent.result (corners_between corners c.loop-polygon.corner b)) c.first_corner-behind.ensures c.of-extent.ensures) in
    record {
      corner = c.first_corner-behind.ensures;
      least = least_more c.loop-polygon.boxes c.of-extent.result corners ring_ends polygon_ends polygon (omega (arith, c.loop-polygon-test.true, c.loop-polygon.auto.boxes, c.requires)) here v.least;
      behind = kept_behind c.args.boxes.now c.loop-polygon.boxes c.of-extent.result polygon (length polygon_ends) (omega (arith, c.loop-polygon-test.true)) v.behind;
      all = all_joined corners c.loop-polygon.corner c.first_corner-behind.result c.loop-polygon.all c.of-extent.result c.joined-all.result from c.joined-all.ensures.first c.joined-all.ensures.second v.all c.of-extent.ensures.held;
    }

pub first_outside-requires : goal.first_outside-requires
first_outside-requires c =
    let corners = c.args.corners.now in
    let ring_ends = c.args.ring_ends.now in
    let polygon_ends = c.args.polygon_ends.now in
    let ends = c.in_ok-check_ends.ensures in
    let v = c.loop-polygon.invariant in
    let whole : c.loop-polygon.polygon ≡ length polygon_ends = omega (arith, c.loop-polygon-test.false, c.loop-polygon.auto.polygon-end) in
    let end : c.loop-polygon.corner ≡ length corners = v.corner ∙ ap (first_corner ring_ends polygon_ends) whole ∙ last_corner corners ring_ends polygon_ends ends.rings ends.polygons in
    all_corners corners c.loop-polygon.all c.loop-polygon.corner end v.all
