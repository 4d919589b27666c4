-- Laws of crossings.
use Rattle.std.specs.Prelude.{◌≡◌, ◌↔◌, ◌+◌, ◌+ℤ◌, List, ◌++◌, map}
use Rattle.grid.specs.Position.{Position}
use Rattle.polygons.specs.declared.edge.Edge.{Edge}
use Rattle.polygons.specs.declared.rule.Rule.{Rule}
use Rattle.polygons.specs.Crossing.{is_crossed_down, is_crossed_up, crossings, winding, IsInside}

-- The edge in the other direction.
abbrev pub reversed : Edge → Edge
reversed e = record { a = e.b; b = e.a }

-- The crossings of two lists of edges together are the sum, and so is the winding number.
pub record CrossingsAdd (first second : List Edge) (p : Position) : Type 0 where
  pub crossings : crossings (first ++ second) p ≡ crossings first p + crossings second p
  pub winding : winding (first ++ second) p ≡ winding first p +ℤ winding second p

-- An edge is crossed downwards where its reverse is crossed upwards.
pub record AreOpposite (e f : Edge) (p : Position) : Type 0 where
  pub down : is_crossed_down e p ≡ is_crossed_up f p
  pub up : is_crossed_up e p ≡ is_crossed_down f p

-- Edges that one polygon has in one direction and its neighbour in the other cancel. The two together cover what they would cover
-- without them.
abbrev pub SharedEdgesCancel : Rule → List Edge → List Edge → List Edge → Position → Type 0
SharedEdgesCancel rule first shared second p =
    IsInside rule ((first ++ shared) ++ (map reversed shared ++ second)) p ↔ IsInside rule (first ++ second) p

-- A position translated by a distance in each coordinate.
abbrev pub translated : Position → Position → Position
translated by p = record { x = p.x +ℤ by.x; y = p.y +ℤ by.y }

-- An edge translated by a distance in each coordinate.
abbrev pub translated_edge : Position → Edge → Edge
translated_edge by e = record { a = translated by e.a; b = translated by e.b }

-- What is inside moves with the edges.
abbrev pub MovesAlong : Rule → Position → List Edge → Position → Type 0
MovesAlong rule by edges p = IsInside rule (map (translated_edge by) edges) (translated by p) ↔ IsInside rule edges p
