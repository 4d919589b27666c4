-- Rings as parts of a list of corners.
use Rattle.std.proofs.Common.{◌≡◌, refl, ap, ◌∙◌, arith, ℕ, zero, suc, ◌+◌, ◌-◌, ◌<◌, ◌≤◌, List, [], ◌∷◌, map, take, drop, length, slice_index, drop-cons, add-one, pos, ◌+ℤ◌}
use Rattle.std.proofs.lemmas.Int.{ints}
use Rattle.std.proofs.lemmas.List.{length-take, length-map, take-map, drop-map, take-take, drop-take, drop-drop}
use Rattle.std.proofs.lemmas.List.Elements.{All-take, All-drop}
use Rattle.std.specs.List.{All}
use Rattle.grid.specs.Position.{Position}
use Rattle.polygons.specs.declared.corner.Corner.{Corner}
use Rattle.polygons.specs.declared.extent.Extent.{Extent}
use Rattle.polygons.specs.Crossing.{winding}
use Rattle.polygons.specs.Polygon.{ring_edges, polygon_edges, corner_count}
use Rattle.polygons.specs.Rings.{position_of, rings_from, end_of, AreAscendingEnds, IsInExtent, IsInClosedExtent}
use Rattle.polygons.proofs.Boxes.{ring_outside}
use Rattle.polygons.proofs.Counts.{corners-ring}
use Rattle.polygons.proofs.Plotted.{winding-ring}

-- the rings from i on begin with one ring
pub ring_step : (corners : List Corner) (start : ℕ) (ends : List ℕ) (i : ℕ) (p : Position) → i < length ends
    → winding (polygon_edges (rings_from corners start (drop i ends))) p
    ≡ winding (ring_edges (map position_of (take (slice_index ends i - start) (drop start corners)))) p +ℤ winding (polygon_edges (rings_from corners (slice_index ends i) (drop (i + 1) ends))) p
ring_step corners start ends i p h =
    let end : ℕ = slice_index ends i in
    let rest : drop i ends ≡ end ∷ drop (i + 1) ends = rw add-one (drop-cons ends i 0 h) in
    ap (λ (es : List ℕ). winding (polygon_edges (rings_from corners start es)) p) rest
    ∙ winding-ring (map position_of (take (end - start) (drop start corners))) (rings_from corners end (drop (i + 1) ends)) p

-- the next ring begins where one ends
pub next_start : (start : ℕ) (ends : List ℕ) (i : ℕ) → slice_index (start ∷ ends) (i + 1) ≡ slice_index ends i
next_start start ends i = rw add-one refl

-- rings that come later end no earlier
pub rising_to : (start : ℕ) (ends : List ℕ) (limit i d : ℕ) → AreAscendingEnds start ends limit → i + d < length ends + 1 → slice_index (start ∷ ends) i ≤ slice_index (start ∷ ends) (i + d)
rising_to start ends limit i zero h l = let e : i + 0 ≡ i = omega arith in let same = ap (slice_index (start ∷ ends)) e in omega (arith, same)
rising_to start ends limit i (suc d) h l =
    let e : i + suc d ≡ suc (i + d) = omega arith in
    let same = ap (slice_index (start ∷ ends)) e in
    let before = rising_to start ends limit i d h (omega (arith, l)) in
    let next : slice_index (start ∷ ends) (i + d) ≤ slice_index (start ∷ ends) (suc (i + d)) = h.rising (i + d) (omega (arith, l)) in
    omega (arith, same, before, next)

pub begins_within : (start : ℕ) (ends : List ℕ) (limit i : ℕ) → AreAscendingEnds start ends limit → i < length ends → start ≤ slice_index (start ∷ ends) i
begins_within start ends limit i h l =
    let e : 0 + i ≡ i = omega arith in
    let same = ap (slice_index (start ∷ ends)) e in
    let from = rising_to start ends limit 0 i h (omega (arith, l)) in
    omega (arith, same, from)

pub last_within : (start : ℕ) (ends : List ℕ) (limit : ℕ) → AreAscendingEnds start ends limit → 1 ≤ length ends → (start ≤ slice_index ends (length ends - 1)) × (slice_index ends (length ends - 1) ≤ limit)
last_within start ends limit h l =
    let e : 0 + length ends ≡ suc (length ends - 1) = omega (arith, l) in
    let same = ap (slice_index (start ∷ ends)) e in
    let most = rising_to start ends limit 0 (length ends) h (omega arith) in
    (omega (arith, same, most), h.within (length ends - 1) (omega (arith, l)))

-- a ring ends no later than the last one
pub ends_within : (start : ℕ) (ends : List ℕ) (limit i : ℕ) → AreAscendingEnds start ends limit → i < length ends → slice_index ends i ≤ end_of start ends
ends_within start ends limit i h l =
    let e : suc i + (length ends - suc i) ≡ length ends = omega (arith, l) in
    let same = ap (slice_index (start ∷ ends)) e in
    let most = rising_to start ends limit (suc i) (length ends - suc i) h (omega (arith, l)) in
    omega (arith, same, most)

-- the rings have no more corners than the list has from the first on
pub few_corners : (corners : List Corner) (start : ℕ) (ends : List ℕ) → AreAscendingEnds start ends (length corners) → corner_count (rings_from corners start ends) ≤ length corners - start
few_corners corners start [] h = omega arith
few_corners corners start (end ∷ ends) h =
    let ring = map position_of (take (end - start) (drop start corners)) in
    let count = corners-ring ring (rings_from corners end ends) in
    let long = length-map (take (end - start) (drop start corners)) position_of in
    let most = length-take (end - start) (drop start corners) in
    let rises : start ≤ end = h.rising 0 (omega arith) in
    let ends_in : end ≤ length corners = h.within 0 (omega arith) in
    let rest = few_corners corners end ends (record { begins = ends_in; rising = λ k l. h.rising (suc k) (omega (arith, l)); within = λ k l. h.within (suc k) (omega (arith, l)) }) in
    omega arith

-- ---- the box of all corners
-- what holds of the corners from one place to another holds of those before a place between them, and of those from there on
module _ (P : Position → Type 0) (corners : List Corner) (start mid end : ℕ) (rises : start ≤ mid) (rests : mid ≤ end) (all : All P (map position_of (take (end - start) (drop start corners)))) where
  pub all_before : All P (map position_of (take (mid - start) (drop start corners)))
  all_before =
      let less : mid - start ≤ end - start = omega arith in
      let cut = All-take P (mid - start) (map position_of (take (end - start) (drop start corners))) all in
      rw (take-map position_of (mid - start) (take (end - start) (drop start corners)), take-take (mid - start) (end - start) (drop start corners) less) at cut

  pub all_behind : All P (map position_of (take (end - mid) (drop mid corners)))
  all_behind =
      let sum : (mid - start) + (end - mid) ≡ end - start = omega arith in
      let place : start + (mid - start) ≡ mid = omega arith in
      let rest = All-drop P (mid - start) (map position_of (take (end - start) (drop start corners))) all in
      rw (drop-map position_of (mid - start) (take (end - start) (drop start corners)), ← sum, drop-take (mid - start) (end - mid) (drop start corners), drop-drop (mid - start) start corners, place) at rest

-- rings in a box wind around nothing outside of it
pub rings_outside : (e : Extent) (corners : List Corner) (start : ℕ) (ends : List ℕ) (limit : ℕ) (p : Position) → AreAscendingEnds start ends limit
    → All (IsInClosedExtent e) (map position_of (take (end_of start ends - start) (drop start corners))) → ¬ IsInExtent e p → winding (polygon_edges (rings_from corners start ends)) p ≡ pos 0
rings_outside e corners start [] limit p h all out = refl
rings_outside e corners start (end ∷ ends) limit p h all out =
    let rises : start ≤ end = h.rising 0 (omega arith) in
    let last : end ≤ end_of start (end ∷ ends) = ends_within start (end ∷ ends) limit 0 h (omega arith) in
    let ring = ring_outside e (map position_of (take (end - start) (drop start corners))) p (all_before (IsInClosedExtent e) corners start end (end_of start (end ∷ ends)) rises last all) out in
    let rest = rings_outside e corners end ends limit p (record { begins = h.within 0 (omega arith); rising = λ k l. h.rising (suc k) (omega (arith, l)); within = λ k l. h.within (suc k) (omega (arith, l)) })
    (all_behind (IsInClosedExtent e) corners start end (end_of start (end ∷ ends)) rises last all) out in
    let both = winding-ring (map position_of (take (end - start) (drop start corners))) (rings_from corners end ends) p in
    omega (arith, ints)
