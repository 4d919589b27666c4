-- The definitions of this crate, each file behind those that it uses; `python3 -m tools.definitions` writes these lines.
--
-- Counted.antt
--   failed_call: 1 if the call returned an error, else 0.
--   failed_write: 1 if the call returned an error, or took none of at least one byte, else 0.
--
-- Device.antt
--   Device: A reader or a writer, and how many of its calls have failed.
--
-- File.antt
--   ppm_header: The header of a picture of colours: the magic number, the size in decimal digits, and the greatest value.
--   pgm_header: The header of a picture of depths, of 16 bits each (Netpbm, pgm(5)).
--   header_of: The header of a picture's file, by what the picture shows.
--   ppm_file: The file of a picture of colours with these rows.
--   file_of: The file of a picture with these rows, by what it shows.
--   IsPictureFile: The file of a draw list's picture: the header, and then the rows.
--
-- Writes.antt
--   WritesBytes: What was written is all of these bytes, or a beginning of them if the call failed.

pub mod Counted
pub mod Device
pub mod File
pub mod Writes
