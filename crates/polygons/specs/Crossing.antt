-- When an edge of a polygon is crossed at a point, and how many edges are.
use Rattle.std.specs.Prelude.{◌≡◌, ◌≢◌, ℕ, ◌+◌, ◌%◌, ℤ, pos, ◌+ℤ◌, ◌-ℤ◌, ◌*ℤ◌, ◌≤ℤ◌, ◌<ℤ◌, Bool, ◌&&◌, not, ◌==◌, int_le, int_lt, List, count_by}
use Rattle.grid.specs.Position.{Position}
use Rattle.grid.specs.Edge.{side}
use Rattle.polygons.specs.declared.edge.Edge.{Edge}
use Rattle.polygons.specs.declared.rule.Rule.{Rule}
use Rattle.polygons.specs.declared.rule.Rule.TheVariants.{EvenOdd, NonZero}

-- The edge is crossed downwards at p. It runs downwards, its half-open range of heights holds that of p, and at this height its line
-- is at p or left of it.
pub record CrossesDown (e : Edge) (p : Position) : Type 0 where
  pub top : e.a.y ≤ℤ p.y
  pub bottom : p.y <ℤ e.b.y
  pub line : side e.a e.b p ≤ℤ pos 0

-- The line of an edge that runs downwards is, at the height of p, at p or left of it. Its x there is
-- a.x + (b.x - a.x) (p.y - a.y) / (b.y - a.y), and both sides are multiplied by b.y - a.y.
abbrev pub IsLineAtOrLeft : Edge → Position → Type 0
IsLineAtOrLeft e p = (e.a.x *ℤ (e.b.y -ℤ e.a.y) +ℤ (e.b.x -ℤ e.a.x) *ℤ (p.y -ℤ e.a.y)) ≤ℤ (p.x *ℤ (e.b.y -ℤ e.a.y))

-- The edge is crossed upwards at p: it runs upwards, with the same range of heights and the same side of the line.
pub record CrossesUp (e : Edge) (p : Position) : Type 0 where
  pub top : e.b.y ≤ℤ p.y
  pub bottom : p.y <ℤ e.a.y
  pub line : pos 0 ≤ℤ side e.a e.b p

-- Whether the edge is crossed downwards at p.
abbrev pub is_crossed_down : Edge → Position → Bool
is_crossed_down e p = (int_le e.a.y p.y && int_lt p.y e.b.y) && int_le (side e.a e.b p) (pos 0)

-- Whether the edge is crossed upwards at p.
abbrev pub is_crossed_up : Edge → Position → Bool
is_crossed_up e p = (int_le e.b.y p.y && int_lt p.y e.a.y) && int_le (pos 0) (side e.a e.b p)

-- How many edges are crossed downwards at p.
abbrev pub downs : List Edge → Position → ℕ
downs edges p = count_by (λ e. is_crossed_down e p) edges

-- How many edges are crossed upwards at p.
abbrev pub ups : List Edge → Position → ℕ
ups edges p = count_by (λ e. is_crossed_up e p) edges

-- How many edges are crossed at p. No edge is crossed both ways.
abbrev pub crossings : List Edge → Position → ℕ
crossings edges p = downs edges p + ups edges p

-- The sum of the directions of the crossed edges: 1 for each that is crossed downwards, -1 for each that is crossed upwards.
abbrev pub winding : List Edge → Position → ℤ
winding edges p = pos (downs edges p) -ℤ pos (ups edges p)

-- This number of crossings and this winding number mean inside, by the rule. The even-odd rule asks for an odd number of crossings,
-- the nonzero rule for a winding number other than 0.
abbrev pub IsInsideBy : Rule → ℕ → ℤ → Type 0
IsInsideBy EvenOdd crossed turns = crossed % 2 ≡ 1
IsInsideBy NonZero crossed turns = turns ≢ pos 0

-- Whether p is inside of what the edges bound, by the rule: `IsInside` as a truth value.
abbrev pub is_inside : Rule → List Edge → Position → Bool
is_inside EvenOdd edges p = (crossings edges p % 2) == 1
is_inside NonZero edges p = not (downs edges p == ups edges p)

-- p is inside of what the edges bound, by the rule.
abbrev pub IsInside : Rule → List Edge → Position → Type 0
IsInside rule edges p = IsInsideBy rule (crossings edges p) (winding edges p)
