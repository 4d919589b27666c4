use Rattle.std.specs.Prelude.{◌≡◌, ℕ, ◌+◌, ◌<◌, length, take, sum, slice_index}
use Rattle.draw_list.specs.Scene.{Scene}
use Rattle.draw_list.specs.declared.place.TrianglePlace.{TrianglePlace}

-- The triangle of this number in draw order stands in this draw, and behind as many triangles of the draw as its number there.
pub record IsPlace (l : Scene) (number : ℕ) (place : TrianglePlace) : Type 0 where
  pub draw : place.draw < length l.draws
  pub within : place.triangle < slice_index l.draws place.draw
  pub behind : number ≡ sum (take place.draw l.draws) + place.triangle
