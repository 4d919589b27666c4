-- Corners that are inside of the guard band.
use Rattle.std.proofs.Common.{◌≡◌, sym, ap, subst, ◌∙◌, arith, ℕ, ◌+◌, ◌-◌, ◌<◌, ◌≤◌, List, map, take, drop, length, length-drop, get_or, slice_index}
use Rattle.std.specs.List.{All}
use Rattle.std.proofs.lemmas.List.{get_or-map, get_or-take, get_or-drop, length-take, length-map}
use Rattle.std.proofs.lemmas.List.Elements.{All-map, All-take, All-drop}
use Rattle.grid.specs.Position.{IsInGuardBand}
use Rattle.polygons.specs.declared.corner.Corner.{Corner}
use Rattle.polygons.specs.Arrays.{begin_of, first_corner, ends_of, AreParts, IsPolygonInBand}
use Rattle.polygons.specs.Rings.{position_of, end_of, corners_between, AreCornersInBand}
use Rattle.polygons.proofs.ArrayParts.{next_begin, end_of_part}
use Rattle.polygons.proofs.RingParts.{all_before, all_behind}
use Rattle.polygons.proofs.RunBoxes.{zeros}

-- what holds of where corners lie
pub in_band_at : (corners : List Corner) → All IsInGuardBand (map position_of corners) → AreCornersInBand corners
in_band_at corners all k d h =
    let long = length-map corners position_of in
    let inside = all k (position_of d) (omega (arith, h, long)) in
    rw (get_or-map position_of corners k d (position_of d) h) at inside

pub in_band_of : (corners : List Corner) → AreCornersInBand corners → All IsInGuardBand (map position_of corners)
in_band_of corners all = All-map IsInGuardBand position_of corners all

module _ (corners : List Corner) (start end : ℕ) (seen : All IsInGuardBand (corners_between corners start end)) where
  -- those of a part
  pub part_seen : (from to : ℕ) → start ≤ from → from ≤ to → to ≤ end → AreCornersInBand (take (to - from) (drop from corners))
  part_seen from to l m h =
      in_band_at (take (to - from) (drop from corners))
      (all_before IsInGuardBand corners from to end m h (all_behind IsInGuardBand corners start from end l (omega (arith, m, h)) seen))

  -- a single one
  pub corner_seen : (i : ℕ) → start ≤ i → i < end → i < length corners → IsInGuardBand (position_of (get_or corners i zeros))
  corner_seen i l m h =
      let part = part_seen i (i + 1) l (omega arith) (omega (arith, m)) in
      let one : i + 1 - i ≡ 1 = omega arith in
      let rest = length-drop i corners in
      let long : 0 < length (take (i + 1 - i) (drop i corners)) = omega (arith, length-take (i + 1 - i) (drop i corners), rest, m, h) in
      let place : i + 0 ≡ i = omega arith in
      subst (λ (c : Corner). IsInGuardBand (position_of c)) (get_or-take (i + 1 - i) (drop i corners) 0 zeros (omega arith) ∙ get_or-drop i corners 0 zeros ∙ ap (λ k. get_or corners k zeros) place) (part 0 zeros long)

-- the rings of a polygon end where those of the next one begin
pub rings_end : (ring_ends polygon_ends : List ℕ) (k : ℕ) → AreParts polygon_ends (length ring_ends) → k < length polygon_ends
    → end_of (first_corner ring_ends polygon_ends k) (ends_of ring_ends polygon_ends k) ≡ first_corner ring_ends polygon_ends (k + 1)
rings_end ring_ends polygon_ends k polygons l =
    end_of_part ring_ends (begin_of polygon_ends k) (slice_index polygon_ends k) (polygons.rising.rising k l) (polygons.rising.within k l) ∙ ap (begin_of ring_ends) (sym (next_begin polygon_ends k))

-- each polygon of corners in the guard band
pub polygon_seen : (corners : List Corner) (ring_ends polygon_ends : List ℕ) (k : ℕ) → AreCornersInBand corners → IsPolygonInBand corners ring_ends polygon_ends k
polygon_seen corners ring_ends polygon_ends k all =
    let a = first_corner ring_ends polygon_ends k in
    let b = first_corner ring_ends polygon_ends (k + 1) in
    All-map IsInGuardBand position_of (take (b - a) (drop a corners)) (All-take (λ c. IsInGuardBand (position_of c)) (b - a) (drop a corners) (All-drop (λ c. IsInGuardBand (position_of c)) a corners all))
