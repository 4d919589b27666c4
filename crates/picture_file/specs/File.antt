-- The picture files: binary PPM and binary PGM, each in one spelling (Netpbm, ppm(5) and pgm(5)).
use Rattle.std.specs.Prelude.{◌≡◌, ℕ, List, ◌++◌, codes, decimal}
use Rattle.draw_list.specs.declared.output.Output.{Output}
use Rattle.draw_list.specs.declared.output.Output.TheVariants.{Color, Depth}
use Rattle.draw_list.specs.Scene.{Scene}
use Rattle.draw_list.specs.Picture.{IsPicture}

-- The header of a picture of colours: the magic number, the size in decimal digits, and the greatest value. The width comes before
-- the height (Netpbm, ppm(5)).
abbrev pub ppm_header : ℕ → ℕ → List ℕ
ppm_header width height = codes "P6\n" ++ decimal width ++ codes " " ++ decimal height ++ codes "\n255\n"

-- The header of a picture of depths, of 16 bits each (Netpbm, pgm(5)). As its greatest value is above 255, a pixel has two bytes,
-- the more significant one first.
abbrev pub pgm_header : ℕ → ℕ → List ℕ
pgm_header width height = codes "P5\n" ++ decimal width ++ codes " " ++ decimal height ++ codes "\n65535\n"

-- The header of a picture's file, by what the picture shows.
abbrev pub header_of : Output → ℕ → ℕ → List ℕ
header_of Color = ppm_header
header_of Depth = pgm_header

-- The file of a picture of colours with these rows.
abbrev pub ppm_file : ℕ → ℕ → List ℕ → List ℕ
ppm_file width height rows = ppm_header width height ++ rows

-- The file of a picture with these rows, by what it shows.
abbrev pub file_of : Output → ℕ → ℕ → List ℕ → List ℕ
file_of output width height rows = header_of output width height ++ rows

-- The file of a draw list's picture: the header, and then the rows.
pub record IsPictureFile (l : Scene) (file : List ℕ) : Type 0 where
  pub rows : List ℕ
  pub picture : IsPicture l rows
  pub whole : file ≡ file_of l.output l.width l.height rows
