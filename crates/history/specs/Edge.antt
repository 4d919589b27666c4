use Rattle.std.specs.Prelude.{◌≡◌, ◌⊎◌, ◌↔◌, Some, pos, ◌*ℤ◌, ◌<ℤ◌}
use Rattle.grid.specs.Position.{Position}
use Rattle.grid.specs.Edge.{side, IsTopEdge, IsLeftEdge}
use Rattle.history.specs.declared.edge.EdgeAt.{EdgeAt}
use Rattle.history.specs.declared.edge.EdgeReason.TheVariants.{Outside, OnUncoveredEdge}

-- p lies strictly on the other side of the edge ab than the third vertex c.
-- So its edge function has the other sign than the doubled area.
abbrev pub IsOutsideEdge : Position → Position → Position → Position → Type 0
IsOutsideEdge a b c p = (side a b p *ℤ side a b c) <ℤ pos 0

-- The edge function of ab is zero at p, and ab is neither a top nor a left edge of the triangle with third vertex c.
pub record IsOnUncoveredEdge (a b c p : Position) : Type 0 where
  pub on_line : side a b p ≡ pos 0
  pub uncovered : ¬ (IsTopEdge a b c ⊎ IsLeftEdge a b c)

-- Either reason why p fails the top-left rule at an edge of a triangle that has an area.
abbrev pub FailsEdge : Position → Position → Position → Position → Type 0
FailsEdge a b c p = IsOutsideEdge a b c p ⊎ IsOnUncoveredEdge a b c p

-- The edge function of ab at p, and each reason exactly when it holds.
pub record IsEdgeAt (a b c p : Position) (e : EdgeAt) : Type 0 where
  pub value : e.value ≡ side a b p
  pub outside : (e.reason ≡ Some Outside) ↔ IsOutsideEdge a b c p
  pub on_edge : (e.reason ≡ Some OnUncoveredEdge) ↔ IsOnUncoveredEdge a b c p
