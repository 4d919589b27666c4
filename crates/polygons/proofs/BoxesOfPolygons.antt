-- Runs of polygons and their boxes.
use Rattle.std.proofs.Common.{◌≡◌, ◌≢◌, inl, inr, sym, ap, subst, ◌∙◌, arith, ℕ, ◌+◌, ◌-◌, ◌*◌, ◌/◌, ◌%◌, ◌<◌, ◌≤◌, min, set, List, map, take, length, slice_index, get_or, get_or-set_same, get_or-set_other, pos}
use Rattle.std.specs.List.{All}
use Rattle.std.proofs.Math.Nat.{lt_of_mul-lt-mul_right}
use Rattle.std.proofs.lemmas.Bool.{cases_lt}
use Rattle.std.proofs.lemmas.Grind.{div_ceil_times}
use Rattle.std.proofs.lemmas.List.{take_all}
use Rattle.std.proofs.lemmas.List.Elements.{All-append, All-weaker}
use Rattle.grid.specs.Position.{Position}
use Rattle.polygons.specs.declared.corner.Corner.{Corner}
use Rattle.polygons.specs.declared.extent.Extent.{Extent}
use Rattle.polygons.specs.Arrays.{begin_of, first_corner, ends_of, rings_of, AreParts}
use Rattle.polygons.specs.Polygon.{polygon_edges}
use Rattle.polygons.specs.Rings.{position_of, end_of, AreAscendingEnds, IsInClosedExtent, HoldsInside, corners_between}
use Rattle.polygons.proofs.ArrayParts.{next_begin, end_of_part, part_of_ends}
use Rattle.polygons.proofs.Boxes.{holds_inside}
use Rattle.polygons.proofs.RingParts.{all_before, all_behind, rings_outside, rising_to}
use Rattle.polygons.proofs.RunBoxes.{between_joined, run_ends}

abbrev nowhere : Extent
nowhere = record { left = pos 0; top = pos 0; right = pos 0; bottom = pos 0 }

-- ---- a box that holds the corners of some polygons
begins_rise : (ends : List ℕ) (n i j : ℕ) → AreAscendingEnds 0 ends n → i ≤ j → j ≤ length ends → begin_of ends i ≤ begin_of ends j
begins_rise ends n i j h l m =
    let e : i + (j - i) ≡ j = omega (arith, l) in
    let same = ap (begin_of ends) e in
    let rises = rising_to 0 ends n i (j - i) h (omega (arith, l, m)) in
    omega (arith, same, rises)

begins_within : (ends : List ℕ) (n i : ℕ) → AreParts ends n → i ≤ length ends → begin_of ends i ≤ n
begins_within ends n i h l = let rises = begins_rise ends n i (length ends) h.rising l (omega arith) in let whole = h.whole in omega (arith, rises, whole)

module _ (corners : List Corner) (ring_ends polygon_ends : List ℕ) (rings : AreParts ring_ends (length corners)) (polygons : AreParts polygon_ends (length ring_ends)) where
  pub corners_rise : (i j : ℕ) → i ≤ j → j ≤ length polygon_ends → first_corner ring_ends polygon_ends i ≤ first_corner ring_ends polygon_ends j
  corners_rise i j l m =
      begins_rise ring_ends (length corners) (begin_of polygon_ends i) (begin_of polygon_ends j) rings.rising (begins_rise polygon_ends (length ring_ends) i j polygons.rising l m) (begins_within polygon_ends (length ring_ends) j polygons m)

  pub corners_within : (i : ℕ) → i ≤ length polygon_ends → first_corner ring_ends polygon_ends i ≤ length corners
  corners_within i l = begins_within ring_ends (length corners) (begin_of polygon_ends i) rings (begins_within polygon_ends (length ring_ends) i polygons l)

  pub last_corner : first_corner ring_ends polygon_ends (length polygon_ends) ≡ length corners
  last_corner = ap (begin_of ring_ends) polygons.whole ∙ rings.whole

  pub polygon_held : (box : Extent) (first k end : ℕ) → first ≤ k → k < end → end ≤ length polygon_ends
      → All (IsInClosedExtent box) (corners_between corners (first_corner ring_ends polygon_ends first) (first_corner ring_ends polygon_ends end)) → HoldsInside box (polygon_edges (rings_of corners ring_ends polygon_ends k))
  polygon_held box first k end l m within all =
      let from = begin_of polygon_ends k in
      let to : ℕ = slice_index polygon_ends k in
      let rises : from ≤ to = polygons.rising.rising k (omega (arith, m, within)) in
      let fits : to ≤ length ring_ends = polygons.rising.within k (omega (arith, m, within)) in
      let start = begin_of ring_ends from in
      let ends = ends_of ring_ends polygon_ends k in
      let behind : end_of start ends ≡ first_corner ring_ends polygon_ends (k + 1) = end_of_part ring_ends from to rises fits ∙ ap (begin_of ring_ends) (sym (next_begin polygon_ends k)) in
      let rest = all_behind (IsInClosedExtent box) corners (first_corner ring_ends polygon_ends first) start (first_corner ring_ends polygon_ends end) (corners_rise first k l (omega (arith, m, within))) (corners_rise k end (omega (arith, m)) within) all in
      let own = all_before (IsInClosedExtent box) corners start (first_corner ring_ends polygon_ends (k + 1)) (first_corner ring_ends polygon_ends end) (corners_rise k (k + 1) (omega arith) (omega (arith, m, within))) (corners_rise (k + 1) end (omega (arith, m)) within) rest in
      holds_inside box (polygon_edges (rings_of corners ring_ends polygon_ends k)) (λ p out.
      rings_outside box corners start ends (length corners) p (part_of_ends ring_ends (length corners) from to rings.rising rises fits)
      (subst (λ (b : ℕ). All (IsInClosedExtent box) (corners_between corners start b)) (sym behind) own) out)

  -- ---- one run more
  -- of the first m polygons none has anything inside but in the box of its run
  abbrev pub HoldsFirst : List Extent → ℕ → ℕ → Type 0
  HoldsFirst boxes n m = (k : ℕ) → k < m → HoldsInside (get_or boxes (k / n) nowhere) (polygon_edges (rings_of corners ring_ends polygon_ends k))

  pub one_run_more : (boxes : List Extent) (n run first end : ℕ) (box : Extent) → 0 < n → run < length boxes → first ≡ min (run * n) (length polygon_ends) → end ≡ min (first + n) (length polygon_ends)
      → All (IsInClosedExtent box) (corners_between corners (first_corner ring_ends polygon_ends first) (first_corner ring_ends polygon_ends end)) → HoldsFirst boxes n first → HoldsFirst (set boxes run box) n end
  one_run_more boxes n run first end box some room is at all held k l =
      let ends = run_ends k n some in
      let lower = ends.0 in
      let upper = ends.2 in
      elim (cases_lt k first) [
        | inl less ↦
            let before : k / n * n < run * n = omega (arith, lower, less, is) in
            let earlier = lt_of_mul-lt-mul_right n before in
            let other : k / n ≢ run = λ e. omega (arith, e, earlier) in
            subst (λ (b : Extent). HoldsInside b (polygon_edges (rings_of corners ring_ends polygon_ends k))) (sym (get_or-set_other boxes run (k / n) box nowhere other)) (held k less)
        | inr more ↦
            let starts : first ≡ run * n = omega (arith, is, at, l, more) in
            let sum : (run + 1) * n ≡ run * n + n = grind arith in
            let next : (k / n + 1) * n ≡ k / n * n + n = ends.1 in
            let high : k / n * n < (run + 1) * n = omega (arith, lower, l, at, starts, sum) in
            let low : run * n < (k / n + 1) * n = omega (arith, upper, more, starts, next) in
            let above = lt_of_mul-lt-mul_right n high in
            let below = lt_of_mul-lt-mul_right n low in
            let same : k / n ≡ run = omega (arith, above, below) in
            subst (λ (b : Extent). HoldsInside b (polygon_edges (rings_of corners ring_ends polygon_ends k))) (sym (ap (λ i. get_or (set boxes run box) i nowhere) same ∙ get_or-set_same boxes run box nowhere room))
            (polygon_held box first k end more l (omega (arith, at)) all)
      ]

-- all corners up to the end of a run
pub all_joined : (corners : List Corner) (mid end : ℕ) (all box both : Extent) → mid ≤ end → ((p : Position) → IsInClosedExtent all p → IsInClosedExtent both p) → ((p : Position) → IsInClosedExtent box p → IsInClosedExtent both p)
    → All (IsInClosedExtent all) (corners_between corners 0 mid) → All (IsInClosedExtent box) (corners_between corners mid end) → All (IsInClosedExtent both) (corners_between corners 0 end)
all_joined corners mid end all box both rises first second before here =
    subst (All (IsInClosedExtent both)) (sym (between_joined corners 0 mid end (omega arith) rises))
    (All-append (IsInClosedExtent both) (corners_between corners 0 mid) (corners_between corners mid end) (All-weaker (IsInClosedExtent all) (IsInClosedExtent both) first (corners_between corners 0 mid) before)
    (All-weaker (IsInClosedExtent box) (IsInClosedExtent both) second (corners_between corners mid end) here))

pub all_corners : (corners : List Corner) (all : Extent) (end : ℕ) → end ≡ length corners → All (IsInClosedExtent all) (corners_between corners 0 end) → All (IsInClosedExtent all) (map position_of corners)
all_corners corners all end is h =
    let whole : end - 0 ≡ end = omega arith in
    subst (All (IsInClosedExtent all)) (ap (λ n. map position_of (take n corners)) whole ∙ ap (map position_of) (take_all end corners (omega (arith, is)))) h

-- the runs have all polygons
pub enough_runs : (count n : ℕ) → count / 64 + min 1 (count % 64) ≤ n → count ≤ 64 * n
enough_runs count n h = let a = div_ceil_times count 64 (omega arith) in let b = a.0 in omega (arith, b, h)
