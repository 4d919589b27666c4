-- Rings in a list of corners that stand one after another, and the box that holds them.
use Rattle.std.specs.Prelude.{◌≡◌, ℕ, pos, negsuc, ◌-◌, ◌<◌, ◌≤◌, ◌≤ℤ◌, ◌<ℤ◌, List, [], ◌∷◌, map, take, drop, length, slice_index}
use Rattle.std.specs.List.{All}
use Rattle.grid.specs.Position.{Position, IsInGuardBand}
use Rattle.polygons.specs.declared.corner.Corner.{Corner}
use Rattle.polygons.specs.declared.edge.Edge.{Edge}
use Rattle.polygons.specs.declared.extent.Extent.{Extent}
use Rattle.polygons.specs.declared.rule.Rule.{Rule}
use Rattle.polygons.specs.Crossing.{IsInside}

-- Where a corner lies.
abbrev pub position_of : Corner → Position
position_of c = record { x = c.x; y = c.y }

-- Where the corners from index `begin` to before `end` lie.
abbrev pub corners_between : List Corner → ℕ → ℕ → List Position
corners_between corners begin end = map position_of (take (end - begin) (drop begin corners))

-- All corners are inside of the guard band.
abbrev pub AreCornersInBand : List Corner → Type 0
AreCornersInBand corners = All (λ c. IsInGuardBand (position_of c)) corners

-- Each ring, the first of which begins at `start`, ends no earlier than it begins, and the next one begins there. No ring ends behind
-- `limit`.
pub record AreAscendingEnds (start : ℕ) (ends : List ℕ) (limit : ℕ) : Type 0 where
  pub begins : start ≤ limit
  pub rising : (k : ℕ) → k < length ends → slice_index (start ∷ ends) k ≤ slice_index ends k
  pub within : (k : ℕ) → k < length ends → slice_index ends k ≤ limit

-- The index behind the last ring's last corner.
abbrev pub end_of : ℕ → List ℕ → ℕ
end_of start ends = slice_index (start ∷ ends) (length ends)

-- The rings of these corners, by where the first begins and by the index behind the last corner of each.
abbrev pub rings_from : List Corner → ℕ → List ℕ → List (List Position)
rings_from corners start [] = []
rings_from corners start (end ∷ ends) = map position_of (take (end - start) (drop start corners)) ∷ rings_from corners end ends

-- The point is in the box, whose right and lower sides are outside of it.
pub record IsInExtent (e : Extent) (p : Position) : Type 0 where
  pub left : e.left ≤ℤ p.x
  pub right : p.x <ℤ e.right
  pub top : e.top ≤ℤ p.y
  pub bottom : p.y <ℤ e.bottom

-- The point is in the box or on its border.
pub record IsInClosedExtent (e : Extent) (p : Position) : Type 0 where
  pub left : e.left ≤ℤ p.x
  pub right : p.x ≤ℤ e.right
  pub top : e.top ≤ℤ p.y
  pub bottom : p.y ≤ℤ e.bottom

-- All of the first box is in the second one.
pub record IsExtentWithin (e f : Extent) : Type 0 where
  pub left : f.left ≤ℤ e.left
  pub right : e.right ≤ℤ f.right
  pub top : f.top ≤ℤ e.top
  pub bottom : e.bottom ≤ℤ f.bottom

-- The box of no points.
abbrev pub nothing : Extent
nothing = record { left = pos 2147483647; top = pos 2147483647; right = negsuc 2147483647; bottom = negsuc 2147483647 }

-- The box is the least that holds these points: each other that holds them holds it.
pub record IsLeastExtent (e : Extent) (ps : List Position) : Type 0 where
  pub held : All (IsInClosedExtent e) ps
  pub none : length ps ≡ 0 → e ≡ nothing
  pub least : 0 < length ps → (f : Extent) → All (IsInClosedExtent f) ps → IsExtentWithin e f

-- By either rule the edges have nothing inside but in the box.
abbrev pub HoldsInside : Extent → List Edge → Type 0
HoldsInside e edges = (rule : Rule) (p : Position) → IsInside rule edges p → IsInExtent e p
