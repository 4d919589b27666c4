-- The edge functions of a triangle at a point.
use Rattle.std.specs.Prelude.{◌≡◌, ◌⊎◌}
use Rattle.grid.specs.Position.{Position, IsInBand}
use Rattle.grid.specs.Edge.{side}
use Rattle.grid.specs.Triangle.{Covers, doubled_area}
use Rattle.grid.specs.declared.triangle.Tri.{Tri}
use Rattle.checks.specs.Checking.{Checks, done, check}
use Rattle.c_abi.specs.declared.status.Status.{Status}
use Rattle.c_abi.specs.declared.status.Status.TheVariants.{BadPosition}
use Rattle.canvas_c.specs.declared.weights.Corners.{Corners}
use Rattle.canvas_c.specs.declared.weights.Edges.{Edges}

-- The first corner.
abbrev pub a_of : Corners → Position
a_of t = record { x = t.ax; y = t.ay }

-- The second corner.
abbrev pub b_of : Corners → Position
b_of t = record { x = t.bx; y = t.by }

-- The third corner.
abbrev pub c_of : Corners → Position
c_of t = record { x = t.cx; y = t.cy }

-- The corners are in the guard band.
pub record AreInBand (t : Corners) : Type 0 where
  pub ax : IsInBand t.ax
  pub ay : IsInBand t.ay
  pub bx : IsInBand t.bx
  pub by : IsInBand t.by
  pub cx : IsInBand t.cx
  pub cy : IsInBand t.cy

-- The checks of a call that writes edge functions: the corners are in the guard band, and so is the point.
abbrev pub weights_checks : Corners → Position → Checks Status
weights_checks t p = check (AreInBand t) BadPosition (check (IsInBand p.x × IsInBand p.y) BadPosition done)

-- The edge functions at a point, each of the edge across from its corner, the doubled area, and whether the point is covered.
pub record AreEdgesOf (t : Tri) (p : Position) (edges : Edges) : Type 0 where
  pub a : edges.a ≡ side t.b t.c p
  pub b : edges.b ≡ side t.c t.a p
  pub c : edges.c ≡ side t.a t.b p
  pub doubled : edges.doubled ≡ doubled_area t.a t.b t.c
  pub covered : ((edges.covered ≡ 1) × Covers t.a t.b t.c p) ⊎ ((edges.covered ≡ 0) × ¬ Covers t.a t.b t.c p)

-- The edge functions at a point, of the corners as the caller gives them.
abbrev pub AreEdges : Corners → Position → Edges → Type 0
AreEdges t p edges = AreEdgesOf (record { a = a_of t; b = b_of t; c = c_of t }) p edges
