-- Polygons in arrays: corners one ring's after another's, of each ring the index behind its last corner, and of each polygon the index
-- behind its last ring.
use Rattle.std.specs.Prelude.{◌≡◌, ℕ, ◌+◌, ◌-◌, ◌^◌, ◌<◌, ◌≤◌, List, ◌∷◌, take, drop, length, slice_index, slice_index_or, pos}
use Rattle.std.specs.List.{All}
use Rattle.grid.specs.Position.{Position, IsInGuardBand}
use Rattle.polygons.specs.declared.arrays.ArraysError.{ArraysError}
use Rattle.polygons.specs.declared.arrays.ArraysError.TheVariants.{TooManyCorners, Ring, CornersLeft, Polygon, RingsLeft, OutOfBand, TooFewBoxes}
use Rattle.polygons.specs.declared.corner.Corner.{Corner}
use Rattle.polygons.specs.declared.extent.Extent.{Extent}
use Rattle.polygons.specs.Rings.{position_of, rings_from, corners_between, AreCornersInBand, AreAscendingEnds, IsInClosedExtent, IsLeastExtent}

-- Where part k begins: where the one before it ends.
abbrev pub begin_of : List ℕ → ℕ → ℕ
begin_of ends k = slice_index (0 ∷ ends) k

-- The index of the first corner of polygon k.
abbrev pub first_corner : List ℕ → List ℕ → ℕ → ℕ
first_corner ring_ends polygon_ends k = begin_of ring_ends (begin_of polygon_ends k)

-- The ends of the rings of polygon k.
abbrev pub ends_of : List ℕ → List ℕ → ℕ → List ℕ
ends_of ring_ends polygon_ends k = take (slice_index polygon_ends k - begin_of polygon_ends k) (drop (begin_of polygon_ends k) ring_ends)

-- The rings of polygon k.
abbrev pub rings_of : List Corner → List ℕ → List ℕ → ℕ → List (List Position)
rings_of corners ring_ends polygon_ends k = rings_from corners (begin_of ring_ends (begin_of polygon_ends k)) (ends_of ring_ends polygon_ends k)

-- No part ends before the one before it.
abbrev pub AreAscending : List ℕ → Type 0
AreAscending ends = (k : ℕ) → k + 1 < length ends → slice_index ends k ≤ slice_index ends (k + 1)

-- The parts end one after another, and the last one with the whole, which has n elements.
pub record AreParts (ends : List ℕ) (n : ℕ) : Type 0 where
  pub rising : AreAscendingEnds 0 ends n
  pub whole : begin_of ends (length ends) ≡ n

-- Where the corners of polygon k lie.
abbrev pub polygon_corners : List Corner → List ℕ → List ℕ → ℕ → List Position
polygon_corners corners ring_ends polygon_ends k = corners_between corners (first_corner ring_ends polygon_ends k) (first_corner ring_ends polygon_ends (k + 1))

-- The corners of polygon k are inside of the guard band.
abbrev pub IsPolygonInBand : List Corner → List ℕ → List ℕ → ℕ → Type 0
IsPolygonInBand corners ring_ends polygon_ends k = All IsInGuardBand (polygon_corners corners ring_ends polygon_ends k)

-- The arrays are those of polygons. There are no boxes, and all corners are inside of the guard band; or there is a box for each polygon,
-- and of corners nothing is said.
pub record ArePolygons (corners : List Corner) (ring_ends polygon_ends : List ℕ) (boxes : List Extent) : Type 0 where
  pub few : length corners < 2 ^ 32
  pub rings : AreParts ring_ends (length corners)
  pub polygons : AreParts polygon_ends (length ring_ends)
  pub seen : length boxes ≡ 0 → AreCornersInBand corners
  pub boxed : 0 < length boxes → length polygon_ends ≤ length boxes

-- The box of number k.
abbrev pub box_at : List Extent → ℕ → Extent
box_at boxes k = slice_index_or boxes k (record { left = pos 0; top = pos 0; right = pos 0; bottom = pos 0 })

-- All corners are inside of the guard band, and each of polygon k is in box k or on its border.
pub record AreBoxesOf (boxes : List Extent) (corners : List Corner) (ring_ends polygon_ends : List ℕ) : Type 0 where
  pub seen : AreCornersInBand corners
  pub held : (k : ℕ) → k < length polygon_ends → All (IsInClosedExtent (box_at boxes k)) (polygon_corners corners ring_ends polygon_ends k)

-- If there are boxes, they are those of the polygons.
abbrev pub BoxesFit : List Extent → List Corner → List ℕ → List ℕ → Type 0
BoxesFit boxes corners ring_ends polygon_ends = 0 < length boxes → AreBoxesOf boxes corners ring_ends polygon_ends

-- All corners are inside of the guard band, and box k is the least one that holds those of polygon k.
pub record AreLeastBoxesOf (boxes : List Extent) (corners : List Corner) (ring_ends polygon_ends : List ℕ) : Type 0 where
  pub seen : AreCornersInBand corners
  pub least : (k : ℕ) → k < length polygon_ends → IsLeastExtent (box_at boxes k) (polygon_corners corners ring_ends polygon_ends k)

-- The boxes from number n on are unchanged.
abbrev pub KeepsBoxesFrom : ℕ → List Extent → List Extent → Type 0
KeepsBoxesFrom n old new = (k : ℕ) → n ≤ k → box_at new k ≡ box_at old k

-- Part k is the first that ends before it begins, or behind the whole, which has n elements.
pub record IsFirstFall (ends : List ℕ) (n k : ℕ) : Type 0 where
  pub inside : k < length ends
  pub before : AreAscendingEnds 0 (take k ends) n
  pub falls : ¬ ((begin_of ends k ≤ slice_index ends k) × (slice_index ends k ≤ n))

-- The last part ends before the whole does, which has n elements.
pub record IsShort (ends : List ℕ) (n : ℕ) : Type 0 where
  pub rising : AreAscendingEnds 0 ends n
  pub short : begin_of ends (length ends) < n

-- Corner k is the first outside of the guard band.
pub record IsFirstOutside (corners : List Corner) (k : ℕ) : Type 0 where
  pub inside : k < length corners
  pub before : AreCornersInBand (take k corners)
  pub outside : ¬ IsInGuardBand (position_of (slice_index_or corners k (record { x = pos 0; y = pos 0 })))

-- What is first wrong with the arrays. It is looked at in this order: that there are fewer than 2^32 corners; the ends of rings; the ends
-- of polygons; the corners, or how many boxes there are, if there are any.
abbrev pub IsWrong : List Corner → List ℕ → List ℕ → List Extent → ArraysError → Type 0
IsWrong corners ring_ends polygon_ends boxes TooManyCorners = 2 ^ 32 ≤ length corners
IsWrong corners ring_ends polygon_ends boxes (Ring k) = (length corners < 2 ^ 32) × IsFirstFall ring_ends (length corners) k
IsWrong corners ring_ends polygon_ends boxes CornersLeft = (length corners < 2 ^ 32) × IsShort ring_ends (length corners)
IsWrong corners ring_ends polygon_ends boxes (Polygon k) =
    (length corners < 2 ^ 32) × AreParts ring_ends (length corners) × IsFirstFall polygon_ends (length ring_ends) k
IsWrong corners ring_ends polygon_ends boxes RingsLeft =
    (length corners < 2 ^ 32) × AreParts ring_ends (length corners) × IsShort polygon_ends (length ring_ends)
IsWrong corners ring_ends polygon_ends boxes (OutOfBand k) =
    (length corners < 2 ^ 32) × AreParts ring_ends (length corners) × AreParts polygon_ends (length ring_ends) × (length boxes ≡ 0) × IsFirstOutside corners k
IsWrong corners ring_ends polygon_ends boxes TooFewBoxes =
    (length corners < 2 ^ 32) × AreParts ring_ends (length corners) × AreParts polygon_ends (length ring_ends) × (0 < length boxes) × (length boxes < length polygon_ends)
