use Rattle.std.specs.Prelude.{◌≡◌, ℕ, ◌≤◌, ◌^◌}
use Rattle.std.specs.Int.RustNames.{unsigned_abs}
use Rattle.grid.specs.Position.{Position}
use Rattle.grid.specs.Edge.{side}
use Rattle.grid.specs.Triangle.{doubled_area, Covers}

-- The triangle abc and a point p.
pub record TriangleAndPoint : Type 0 where
  pub a : Position
  pub b : Position
  pub c : Position
  pub p : Position

-- The weights of the vertices a, b, c at the covered point p: the absolute edge functions of the opposite edges there.
-- They add up to the absolute doubled area.
pub record AreWeights (a b c p : Position) (first second third area : ℕ) : Type 0 where
  pub covered : Covers a b c p
  pub of_a : first ≡ unsigned_abs (side b c p)
  pub of_b : second ≡ unsigned_abs (side c a p)
  pub of_c : third ≡ unsigned_abs (side a b p)
  pub of_all : area ≡ unsigned_abs (doubled_area a b c)
  pub bound : area ≤ 2 ^ 48
