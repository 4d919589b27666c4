-- Edges that run through at most one row of each sample.
use Rattle.std.specs.Prelude.{ℕ, ◌^◌, ◌<◌, ℤ, pos, ◌+ℤ◌, ◌≤ℤ◌, ◌<ℤ◌, List, slice_index_or}
use Rattle.grid.specs.Bounds.{IsWithin}
use Rattle.polygons.specs.declared.edge.Edge.{Edge}

-- The edge is less than a pixel wide and at most a pixel high.
pub record IsShortEdge (e : Edge) : Type 0 where
  pub down : e.b.y ≤ℤ (e.a.y +ℤ pos 256)
  pub up : e.a.y ≤ℤ (e.b.y +ℤ pos 256)
  pub right : e.b.x <ℤ (e.a.x +ℤ pos 256)
  pub left : e.a.x <ℤ (e.b.x +ℤ pos 256)

-- Each of four rows is at most 2 ^ 17 rows away.
abbrev pub AreNearRows : List ℤ → Type 0
AreNearRows rows = (s : ℕ) → s < 4 → IsWithin (2 ^ 17) (slice_index_or rows s (pos 0))
