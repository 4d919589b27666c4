-- The definitions of this crate, each file behind those that it uses; `python3 -m tools.definitions` writes these lines.
--
-- Texts.antt
--   list_checks: The checks of a list that the caller gives: that there is one, for which memory is allocated, and then those of the list.
--   text_checks: The checks of a list that the caller gives as bytes: their number, and then the list.
--   IsFirstOfText: What the first error is of a list that the caller gives as bytes.
--
-- Library.antt
--   IsTileSize: There are tiles of this size in pixels: 8, 16, 32 or 64.
--   IsPut: The buffer begins with the bytes, and holds behind them what it held before.
--   HoldsFile: The buffer begins with the file of a list's picture, and holds behind it what it held before.
--   DrawsFile: The buffer begins with the file of the picture of the list that the caller gave.
--   HasTileRows: The list's picture has these tile rows, at least one.
--   HoldsRows: The buffer begins with the bytes of the rows of pixels in these tile rows.
--   DrawsRows: The buffer begins with the bytes of these tile rows of the list that the caller gave.
--   file_length: How many bytes the file of a list's picture has: those of the header, and of each pixel.
--   IsImageInfo: The width and height of a list's picture in pixels, and the bytes of a pixel, of the header and of the whole file.
--   HoldsInfo: The image info of the list that the caller gave.
--   file_checks: The checks of a list whose file is drawn: its bytes fit.
--   picture_checks: The checks of a call that draws the file of a list.
--   rows_checks: The checks of a call that draws tile rows of a list.
--
-- History.antt
--   HoldsHistory: The caller's memory holds the history of the sample that is asked for, of the list that the text denotes.
--   history_checks: The checks of a call that writes a history.
--   HoldsCounts: The caller's memory holds the counts of the triangle in this place, of the list that the text denotes.
--   HasTriangle: The list has a triangle in this place.
--   samples_checks: The checks of a call that counts the samples of a triangle.

pub mod Texts
pub mod Library
pub mod History
