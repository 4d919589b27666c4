-- The four functions of a quad's edges.
use Rattle.std.specs.Prelude.{◌↔◌, ℕ, pos, ◌≤ℤ◌}
use Rattle.grid.specs.Position.{Position}
use Rattle.grid.specs.Quad.{Corners, QuadCovers}
use Rattle.cover.specs.declared.quad.Sides.{Sides}
use Rattle.cover.specs.Edge.{value_at, grown}

-- None of the four functions is negative at p.
pub record IsInsideSides (e : Sides) (p : Position) : Type 0 where
  pub ab : pos 0 ≤ℤ value_at e.ab p
  pub bc : pos 0 ≤ℤ value_at e.bc p
  pub cd : pos 0 ≤ℤ value_at e.cd p
  pub da : pos 0 ≤ℤ value_at e.da p

-- The four edges together test whether the quad covers a point.
abbrev pub AreSidesOf : Corners → Sides → Type 0
AreSidesOf q e = (p : Position) → (IsInsideSides e p ↔ QuadCovers q.a q.b q.c q.d p)

-- None of the four functions is negative `m` to the right of and `n` below the position (x, y), in 1/256 pixel.
pub record IsInsideAt (e : Sides) (x y m n : ℕ) : Type 0 where
  pub ab : pos 0 ≤ℤ grown e.ab (value_at e.ab (record { x = pos x; y = pos y })) m n
  pub bc : pos 0 ≤ℤ grown e.bc (value_at e.bc (record { x = pos x; y = pos y })) m n
  pub cd : pos 0 ≤ℤ grown e.cd (value_at e.cd (record { x = pos x; y = pos y })) m n
  pub da : pos 0 ≤ℤ grown e.da (value_at e.da (record { x = pos x; y = pos y })) m n
