-- Bytes of pixels of the picture: those in a rectangle, and those of a row of pixels.
use Rattle.std.specs.Prelude.{◌≡◌, ℕ, ◌+◌, List, ◌++◌, pos}
use Rattle.grid.specs.declared.pixels.PixelBox.{PixelBox}
use Rattle.draw_list.specs.PixelPrefix.{IsPixelRun}
use Rattle.draw_list.specs.Picture.{IsPicturePart}
use Rattle.draw_list.specs.Scene.{Scene}

-- The bytes of the picture in a rectangle, row by row.
pub record IsPictureIn (l : Scene) (r : PixelBox) (bytes : List ℕ) : Type 0 where
  pub x : ℕ
  pub y : ℕ
  pub width : ℕ
  pub height : ℕ
  pub left : r.x0 ≡ pos x
  pub top : r.y0 ≡ pos y
  pub right : r.x1 ≡ pos (x + width)
  pub bottom : r.y1 ≡ pos (y + height)
  pub part : IsPicturePart l x y width height bytes

-- The new bytes are the old ones, and behind them those of `many` pixels of one row of the picture, from pixel (i, j) on.
pub record AddsPixelRun (l : Scene) (i j many : ℕ) (old new : List ℕ) : Type 0 where
  pub run : List ℕ
  pub is : IsPixelRun l i j many run
  pub behind : new ≡ old ++ run
