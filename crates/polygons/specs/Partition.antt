-- Cells that share edges, and their outline.
use Rattle.std.specs.Prelude.{◌≡◌, ◌⊎◌, ℕ, ◌%◌, ◌≤ℤ◌, pos, List, [], ◌∷◌, ◌++◌, map, flat_map, count_by}
use Rattle.std.specs.List.{All}
use Rattle.grid.specs.Position.{Position}
use Rattle.polygons.specs.declared.edge.Edge.{Edge}
use Rattle.polygons.specs.declared.rule.Rule.{Rule}
use Rattle.polygons.specs.declared.rule.Rule.TheVariants.{EvenOdd}
use Rattle.polygons.specs.Crossing.{crossings, winding, is_inside}
use Rattle.polygons.specs.Junctions.{HaveSameParts}
use Rattle.polygons.specs.Laws.{reversed}

-- The edges of all cells together.
abbrev pub all_edges : List (List Edge) → List Edge
all_edges cells = flat_map (λ edges. edges) cells

-- How many of the cells p is inside of, by the rule.
abbrev pub covering : Rule → List (List Edge) → Position → ℕ
covering rule cells p = count_by (λ edges. is_inside rule edges p) cells

-- The lists have the same edges, each in either direction.
abbrev pub AreSameEdges : List Edge → List Edge → Type 0
AreSameEdges [] [] = Unit {0}
AreSameEdges (e ∷ es) (f ∷ fs) = ((f ≡ e) ⊎ (f ≡ reversed e)) × AreSameEdges es fs
AreSameEdges [] (f ∷ fs) = ⊥
AreSameEdges (e ∷ es) [] = ⊥

-- At p the cells have the edges of the outline once, and besides only edges that occur twice, in any directions. Edges may be cut at
-- T-junctions.
pub record IsOutline (outline : List Edge) (cells : List (List Edge)) (p : Position) : Type 0 where
  pub shared : List Edge
  pub again : List Edge
  pub same : AreSameEdges shared again
  pub edges : HaveSameParts (outline ++ (shared ++ again)) (all_edges cells) p

-- At p the cells have the edges of the outline once, and besides only edges that occur twice, once in each direction. Edges may be cut at
-- T-junctions.
pub record IsFitted (outline : List Edge) (cells : List (List Edge)) (p : Position) : Type 0 where
  pub shared : List Edge
  pub edges : HaveSameParts (outline ++ (shared ++ map reversed shared)) (all_edges cells) p

-- By the even-odd rule p is inside of an odd number of cells if and only if it is inside of their outline.
abbrev pub HasParityOf : List Edge → List (List Edge) → Position → Type 0
HasParityOf outline cells p = covering EvenOdd cells p % 2 ≡ crossings outline p % 2

-- No cell winds backwards around p, as none does whose rings run clockwise around its inside.
abbrev pub WindForwards : List (List Edge) → Position → Type 0
WindForwards cells p = All (λ edges. pos 0 ≤ℤ winding edges p) cells

-- If the outline winds around p once, p is inside of exactly one cell, and of none if the outline does not wind around p.
pub record IsPartition (rule : Rule) (outline : List Edge) (cells : List (List Edge)) (p : Position) : Type 0 where
  pub inside : winding outline p ≡ pos 1 → covering rule cells p ≡ 1
  pub outside : winding outline p ≡ pos 0 → covering rule cells p ≡ 0
