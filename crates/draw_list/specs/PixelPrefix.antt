-- Bytes of a rectangle of the picture that are not all there yet.
use Rattle.std.specs.Prelude.{◌≡◌, ℕ, ◌+◌, ◌*◌, ◌<◌, List, ◌++◌, length}
use Rattle.draw_list.specs.Scene.{Scene}
use Rattle.draw_list.specs.Picture.{IsPixel, pixel_at, output_pixel_bytes}

-- The bytes of the first n pixels of a rectangle of this width, whose upper left pixel is (x, y), row by row.
pub record IsPixelPrefix (l : Scene) (x y width n : ℕ) (bytes : List ℕ) : Type 0 where
  pub size : length bytes ≡ output_pixel_bytes l.output * n
  pub pixels : (i j : ℕ) → i < width → j * width + i < n → IsPixel l (x + i) (y + j) (pixel_at l.output (j * width + i) bytes)

-- The bytes of `many` pixels of one row, from pixel (i, j) to the right.
pub record IsPixelRun (l : Scene) (i j many : ℕ) (bytes : List ℕ) : Type 0 where
  pub size : length bytes ≡ output_pixel_bytes l.output * many
  pub pixels : (m : ℕ) → m < many → IsPixel l (i + m) j (pixel_at l.output m bytes)

-- The new bytes are the old ones, and behind them those of pixel (i, j).
pub record AddsPixel (l : Scene) (i j : ℕ) (old new : List ℕ) : Type 0 where
  pub pixel : List ℕ
  pub is : IsPixel l i j pixel
  pub behind : new ≡ old ++ pixel
