-- The first sample of a row at which an edge is crossed.
use Rattle.std.specs.Prelude.{◌≡◌, ◌↔◌, ℤ, pos, ◌+ℤ◌, ◌-ℤ◌, ◌*ℤ◌, neg_ℤ, ◌≤ℤ◌, ◌<ℤ◌, ◌^◌}
use Rattle.grid.specs.Bounds.{IsWithin}
use Rattle.grid.specs.Position.{Position}
use Rattle.grid.specs.Edge.{side}
use Rattle.polygons.specs.declared.edge.Edge.{Edge}
use Rattle.polygons.specs.declared.slope.Slope.{Slope}
use Rattle.polygons.specs.Crossing.{CrossesDown}

-- The position k pixels to the right of p, or to the left if k is negative.
abbrev pub along : Position → ℤ → Position
along p k = record { x = p.x +ℤ pos 256 *ℤ k; y = p.y }

-- The position one pixel below.
abbrev pub below : Position → Position
below p = record { x = p.x; y = p.y +ℤ pos 256 }

-- The half-open range of heights of an edge that runs downwards holds this height.
pub record HasHeight (e : Edge) (y : ℤ) : Type 0 where
  pub top : e.a.y ≤ℤ y
  pub bottom : y <ℤ e.b.y

-- Of the samples that lie a whole number of pixels from p, those from column c on are crossed, and no other.
abbrev pub IsFirstColumn : Edge → Position → ℤ → Type 0
IsFirstColumn e p c = (k : ℤ) → (CrossesDown e (along p k) ↔ (c ≤ℤ k))

-- An edge that runs downwards, and the sample of column 0 in one of the rows that it runs through.
pub record Walk : Type 0 where
  pub edge : Edge
  pub row : Position

-- The edge function at the first column, by its absolute value in 256 times 1/65536 square pixel, rounded down.
pub record IsAtColumn (e : Edge) (p : Position) (column rest : ℤ) : Type 0 where
  pub low : (pos 256 *ℤ rest) ≤ℤ neg_ℤ (side e.a e.b (along p column))
  pub high : neg_ℤ (side e.a e.b (along p column)) <ℤ (pos 256 *ℤ rest +ℤ pos 256)
  pub rest_low : pos 0 ≤ℤ rest
  pub rest_high : rest <ℤ (e.b.y -ℤ e.a.y)

-- The edge's width as a quotient and a remainder by its height.
pub record IsEdgeStep (e : Edge) (columns part : ℤ) : Type 0 where
  pub sum : e.b.x -ℤ e.a.x ≡ columns *ℤ (e.b.y -ℤ e.a.y) +ℤ part
  pub part_low : pos 0 ≤ℤ part
  pub part_high : part <ℤ (e.b.y -ℤ e.a.y)

-- The slope is that of an edge that runs downwards.
pub record IsSlope (e : Edge) (slope : Slope) : Type 0 where
  pub step : IsEdgeStep e slope.columns slope.part
  pub size : IsWithin (2 ^ 25) slope.columns
