-- The definitions of this crate, each file behind those that it uses; `python3 -m tools.definitions` writes these lines.
--
-- Store.antt
--   Room: The shape of a tile buffer: tile size and samples per pixel.
--
-- Picture.antt
--   IsTileAt: The tile lies where tile k of the picture does, and has its size.
--   IsShown: A sample of the tile whose pixel is in the picture.
--   IsTileBin: The numbers are a bin of each sample of the tile whose pixel is in the picture.
--   stored_sample: Sample s of the pixel in a row and a column of the tile, as it is stored, but without its alpha.
--   AreEnds: The samples whose pixels are in the picture have their final values.
--   AreDepthsAt: The bytes of the depths of the eight pixels in a row of the tile and a column of its blocks.
--   IsSameRun: The bytes, if there are some, are those of any eight pixels in a row of the tile and a column of its blocks.

pub mod Store
pub mod Picture
