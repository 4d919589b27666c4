-- The three functions of a triangle's edges.
use Rattle.std.specs.Prelude.{◌≡◌, ℕ, pos, ◌≤ℤ◌}
use Rattle.grid.specs.Position.{Position}
use Rattle.cover.specs.declared.edges.Edges.{Edges}
use Rattle.cover.specs.declared.edges.Values.{Values}
use Rattle.cover.specs.Block.{IsScreenBounded}
use Rattle.cover.specs.Edge.{value_at, grown}

-- None of the three functions is negative at p.
pub record IsInsideEdges (e : Edges) (p : Position) : Type 0 where
  pub ab : pos 0 ≤ℤ value_at e.ab p
  pub bc : pos 0 ≤ℤ value_at e.bc p
  pub ca : pos 0 ≤ℤ value_at e.ca p

-- The three functions at a position `m` to the right of and `n` below one where they are `at`, in 1/256 pixel.
pub record AreGrown (e : Edges) (at : Values) (m n : ℕ) (v : Values) : Type 0 where
  pub ab : v.ab ≡ grown e.ab at.ab m n
  pub bc : v.bc ≡ grown e.bc at.bc m n
  pub ca : v.ca ≡ grown e.ca at.ca m n

-- The three functions at p.
pub record AreValuesAt (e : Edges) (p : Position) (v : Values) : Type 0 where
  pub ab : v.ab ≡ value_at e.ab p
  pub bc : v.bc ≡ value_at e.bc p
  pub ca : v.ca ≡ value_at e.ca p

-- None of the three functions is negative `m` to the right of and `n` below a position where they are `at`.
pub record IsInsideAfter (e : Edges) (at : Values) (m n : ℕ) : Type 0 where
  pub ab : pos 0 ≤ℤ grown e.ab at.ab m n
  pub bc : pos 0 ≤ℤ grown e.bc at.bc m n
  pub ca : pos 0 ≤ℤ grown e.ca at.ca m n

-- The three functions are as small as on the screen.
pub record AreScreenBounded (v : Values) : Type 0 where
  pub ab : IsScreenBounded v.ab
  pub bc : IsScreenBounded v.bc
  pub ca : IsScreenBounded v.ca
