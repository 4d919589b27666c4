-- A polygon by its rings.
use Rattle.std.specs.Prelude.{ℕ, List, [], ◌∷◌, ◌++◌, length, flat_map, sum_by}
use Rattle.grid.specs.Position.{Position}
use Rattle.polygons.specs.declared.edge.Edge.{Edge}
use Rattle.polygons.specs.declared.rule.Rule.{Rule}
use Rattle.polygons.specs.Crossing.{IsInside}

-- The edges of the path from a corner through others.
abbrev pub path_edges : Position → List Position → List Edge
path_edges a [] = []
path_edges a (b ∷ rest) = record { a = a; b = b } ∷ path_edges b rest

-- The last corner of the path.
abbrev pub path_end : Position → List Position → Position
path_end a [] = a
path_end a (b ∷ rest) = path_end b rest

-- The edges of a ring: from each corner to the next, and from the last to the first.
abbrev pub ring_edges : List Position → List Edge
ring_edges [] = []
ring_edges (first ∷ rest) = path_edges first (rest ++ first ∷ [])

-- The edges of a polygon: those of its rings.
abbrev pub polygon_edges : List (List Position) → List Edge
polygon_edges rings = flat_map ring_edges rings

-- The polygon covers p by the rule.
abbrev pub PolygonCovers : Rule → List (List Position) → Position → Type 0
PolygonCovers rule rings p = IsInside rule (polygon_edges rings) p

-- How many corners the rings have, which is how many edges.
abbrev pub corner_count : List (List Position) → ℕ
corner_count rings = sum_by length rings
