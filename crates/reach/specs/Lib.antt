-- The definitions of this crate, each file behind those that it uses; `python3 -m tools.definitions` writes these lines.
--
-- Reach.antt
--   IsInSpan: n is in the span, from its first number to before its end.
--   MeetsOnScreen: The triangle meets sample s of pixel (i, j) of the screen, which is 4096 by 4096 pixels.
--   HaveMet: The tiles of this size of each sample that the triangle meets are in these columns and rows of tiles.
--   MissesTile: The triangle covers no sample of the tile of this size in a column and a row of tiles.
--   HaveReached: Those of some columns of tiles in which the triangle covers a sample of this tile row are among the others.
--   IsMarked: Column n of the tiles, or tile row n, bears the mark of triangle k.
--   AreReached: A column of tiles and a tile row bear the mark of triangle k if it meets a sample in them.
--
-- Bounds.antt
--   HasPlace: Span k, from its number in the first list to before its number in the second, has this place.
--   AreBounds: The columns and the tile rows of triangle k, for each of the first n triangles, have the tile of each sample that it meets.

pub mod Reach
pub mod Bounds
