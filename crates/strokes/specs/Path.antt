use Rattle.std.specs.Prelude.{List, [], ◌∷◌, ◌++◌, Bool, ◌&&◌, if◌then◌else◌}
use Rattle.std.specs.Ordering.{int_eq}
use Rattle.grid.specs.Position.{Position}

-- a and b are the same point.
abbrev pub is_same : Position → Position → Bool
is_same a b = int_eq a.x b.x && int_eq a.y b.y

-- The points of a path after a, without those that repeat the point before.
abbrev pub moves : Position → List Position → List Position
moves a [] = []
moves a (b ∷ rest) = if is_same a b then moves a rest else b ∷ moves b rest

-- The points of a path without those that repeat the point before.
abbrev pub without_repeats : List Position → List Position
without_repeats [] = []
without_repeats (a ∷ rest) = a ∷ moves a rest

-- The points where the pen goes: along the path, and round a closed path twice, so that it meets each of its corners.
abbrev pub walk : Bool → List Position → List Position
walk is_closed path = without_repeats (if is_closed then path ++ path else path)
