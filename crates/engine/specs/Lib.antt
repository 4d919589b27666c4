-- The definitions of this crate, each file behind those that it uses; `python3 -m tools.definitions` writes these lines.
--
-- Faults.antt
--   IsOfList: The error of a run for an error of its list.
--   of_pool: The error of a run for an error of its workers.
--
-- Input.antt
--   GivesAll: A reader with the bytes `left` gave these bytes, and then was at its end.
--   TakesOver: What the reader gave stands behind the old bytes.
--   Gives: The input gave exactly `count` bytes.
--   HasFault: The input's bytes, up to its end, have this first error.
--
-- Runs.antt
--   WritesFile: What was written is the file of the draw list's picture.
--   WritesFileUpTo: What was written is the first `count` bytes of the file of the draw list's picture.
--   WritesAll: What was written is the file of the draw list's picture, which has `count` bytes.
--   bytes_before: How many bytes of the file come before the tile row of this number, with tiles of this size.
--   WritesTileRows: What was written is the header of the file of the draw list's picture, and all tile rows before this one.
--   WritesPicture: The input's bytes, up to its end, denote a draw list, and what was written is the file of its picture.
--   WritesBeginning: The input's bytes, up to its end, denote a draw list, and the first `count` bytes of its picture's file were written.
--   WritesWholeTileRows: The input's bytes denote a draw list, and whole tile rows of its picture's file were written.
--   Explains: What each error says of the input's and the output's bytes, with tiles of this size.
--   EndsAs: How a run ends: the picture's file was written, or the error explains what was.
--
-- Picture.antt
--   rows_length: How many bytes the rows of pixels in these tile rows have.
--   WritesRows: What was written is the bytes of the tile rows from `first` to before `end`.
--   CutsRows: What was written is a beginning of the bytes of the tile rows from `first` on.
--   ExplainsRows: What was written of the tile rows from `first` to before `end` before this error.
--   EndsRows: How the writing of the tile rows from `first` to before `end` ends: they were written, or the error explains what was.
--   ExplainsPicture: What was written of the file of a list's picture before this error.
--   fault_of: The error of a run for an error of its picture.

pub mod Faults
pub mod Input
pub mod Runs
pub mod Picture
