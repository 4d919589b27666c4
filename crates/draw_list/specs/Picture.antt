-- The picture of a draw list, and its bytes.
use Rattle.std.specs.Prelude.{◌≡◌, ℕ, ◌+◌, ◌*◌, ◌<◌, pos, List, [], ◌∷◌, length, take, drop}
use Rattle.grid.specs.Samples.{count_of}
use Rattle.grid.specs.declared.pixels.PixelBox.{PixelBox}
use Rattle.shade.specs.declared.sample.Sample.{Sample}
use Rattle.shade.specs.Ending.{Ends}
use Rattle.shade.specs.Resolve.{IsResolved}
use Rattle.draw_list.specs.declared.output.Output.{Output}
use Rattle.draw_list.specs.declared.output.Output.TheVariants.{Color, Depth}
use Rattle.draw_list.specs.Scene.{Scene}

-- All pixels of a picture of this size.
abbrev pub picture_box : ℕ → ℕ → PixelBox
picture_box width height = record { x0 = pos 0; y0 = pos 0; x1 = pos width; y1 = pos height }

-- The final value of sample s of pixel (i, j): what all triangles make of the clear colour and depth.
abbrev pub IsEnd : Scene → ℕ → ℕ → ℕ → Sample → Type 0
IsEnd l i j s end = Ends l.triangles l.count i j s l.clear end

-- The colour of pixel (i, j): each channel resolved from the final values of the pixel's samples.
pub record IsColour (l : Scene) (i j : ℕ) (r g b : ℕ) : Type 0 where
  pub end : ℕ → Sample
  pub ends : (s : ℕ) → s < count_of l.count → IsEnd l i j s (end s)
  pub red : IsResolved l.count (λ s. (end s).r) r
  pub green : IsResolved l.count (λ s. (end s).g) g
  pub blue : IsResolved l.count (λ s. (end s).b) b

-- Pixel (i, j) of a picture of colours: red, green and blue.
pub record IsColourPixel (l : Scene) (i j : ℕ) (bytes : List ℕ) : Type 0 where
  pub red : ℕ
  pub green : ℕ
  pub blue : ℕ
  pub colour : IsColour l i j red green blue
  pub order : bytes ≡ red ∷ green ∷ blue ∷ []

-- Pixel (i, j) of a picture of depths: the final depth of the pixel's sample 0, in two bytes. The more significant byte comes first
-- (Netpbm, pgm(5)). No sample is resolved.
pub record IsDepthPixel (l : Scene) (i j : ℕ) (bytes : List ℕ) : Type 0 where
  pub end : Sample
  pub is_end : IsEnd l i j 0 end
  pub high : ℕ
  pub low : ℕ
  pub value : end.z ≡ 256 * high + low
  pub is_byte : low < 256
  pub order : bytes ≡ high ∷ low ∷ []

-- The bytes of pixel (i, j) of a picture that shows this: a colour or a depth.
abbrev pub PixelOf : Output → Scene → ℕ → ℕ → List ℕ → Type 0
PixelOf Color = IsColourPixel
PixelOf Depth = IsDepthPixel

-- The bytes of pixel (i, j), by what the picture shows.
abbrev pub IsPixel : Scene → ℕ → ℕ → List ℕ → Type 0
IsPixel l = PixelOf l.output l

-- How many bytes a pixel has: three of a colour, two of a depth.
abbrev pub output_pixel_bytes : Output → ℕ
output_pixel_bytes Color = 3
output_pixel_bytes Depth = 2

-- The bytes of pixel n, of the bytes of pixels one after another.
abbrev pub pixel_at : Output → ℕ → List ℕ → List ℕ
pixel_at output n bytes = take (output_pixel_bytes output) (drop (output_pixel_bytes output * n) bytes)

-- The bytes of a rectangle of the picture, whose upper left pixel is (x, y). The rows of the rectangle stand from top to bottom,
-- and the pixels of a row from left to right.
pub record IsPicturePart (l : Scene) (x y width height : ℕ) (bytes : List ℕ) : Type 0 where
  pub size : length bytes ≡ output_pixel_bytes l.output * (height * width)
  pub pixels : (i j : ℕ) → i < width → j < height → IsPixel l (x + i) (y + j) (pixel_at l.output (j * width + i) bytes)

-- The bytes of the whole picture.
abbrev pub IsPicture : Scene → List ℕ → Type 0
IsPicture l bytes = IsPicturePart l 0 0 l.width l.height bytes
