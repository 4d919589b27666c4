-- T-junctions: a corner of one polygon lies on an edge of its neighbour, or was rounded off that edge. It cuts the edge into two parts.
use Rattle.std.specs.Prelude.{◌≡◌, ◌%◌, List, [], ◌∷◌, ◌++◌}
use Rattle.std.specs.List.Sorted.{IsPermutation}
use Rattle.grid.specs.Position.{Position}
use Rattle.grid.specs.Triangle.{Covers}
use Rattle.polygons.specs.declared.edge.Edge.{Edge}
use Rattle.polygons.specs.Crossing.{downs, ups, crossings, winding}
use Rattle.polygons.specs.Polygon.{path_end}

-- The two parts of an edge that is cut at q: from its first end to q, and from q to its second end.
abbrev pub parts_at : Position → Edge → List Edge
parts_at q e = record { a = e.a; b = q } ∷ record { a = q; b = e.b } ∷ []

-- The triangle between the edge and its two parts covers p, by the top-left rule. If q lies on the edge's line, this triangle has no area
-- and covers nothing.
abbrev pub IsInSliver : Edge → Position → Position → Type 0
IsInSliver e q p = Covers e.a q e.b p

-- At p the edge is crossed downwards as often as its two parts together, and upwards as often as they are.
pub record IsCrossedAsParts (e : Edge) (q p : Position) : Type 0 where
  pub downs : downs (e ∷ []) p ≡ downs (parts_at q e) p
  pub ups : ups (e ∷ []) p ≡ ups (parts_at q e) p

-- At p the edge counts as much as its two parts together: in the winding number, and in the parity of crossings.
pub record CountsAsParts (e : Edge) (q p : Position) : Type 0 where
  pub winding : winding (e ∷ []) p ≡ winding (parts_at q e) p
  pub parity : crossings (e ∷ []) p % 2 ≡ crossings (parts_at q e) p % 2

-- The parts are the edges of the first list, each whole or cut, and cut edges may be cut again. No triangle between an edge and its two
-- parts covers p.
pub data AreParts (p : Position) : List Edge → List Edge → Type 0 where
  none : AreParts p [] []
  whole : (e : Edge) (es parts : List Edge) → AreParts p es parts → AreParts p (e ∷ es) (e ∷ parts)
  cut : (e : Edge) (q : Position) (es parts : List Edge) → ¬ IsInSliver e q p → AreParts p (parts_at q e ++ es) parts → AreParts p (e ∷ es) parts

-- Whole or cut, the edges of both lists are the same edges, in some order.
pub record HaveSameParts (first second : List Edge) (p : Position) : Type 0 where
  pub first_parts : List Edge
  pub second_parts : List Edge
  pub of_first : AreParts p first first_parts
  pub of_second : AreParts p second second_parts
  pub same : IsPermutation first_parts second_parts

-- The edge of a ring from the last corner of a path to the corner after it. The first corner comes after the last one of the ring.
abbrev pub edge_to_next : Position → List Position → List Position → Edge
edge_to_next first path [] = record { a = path_end first path; b = first }
edge_to_next first path (next ∷ behind) = record { a = path_end first path; b = next }

-- The rings `more` are the rings `rings`, but one has the further corner q, which cuts its edge e.
pub record HasCornerMore (e : Edge) (q : Position) (rings more : List (List Position)) : Type 0 where
  pub others : List (List Position)
  pub others_behind : List (List Position)
  pub first : Position
  pub path : List Position
  pub behind : List Position
  pub edge : e ≡ edge_to_next first path behind
  pub without : rings ≡ others ++ (first ∷ path ++ behind) ∷ others_behind
  pub with : more ≡ others ++ (first ∷ path ++ q ∷ behind) ∷ others_behind
