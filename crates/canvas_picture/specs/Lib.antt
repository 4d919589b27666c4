-- The definitions of this crate, each file behind those that it uses; `python3 -m tools.definitions` writes these lines.
--
-- Batches.antt
--   IsCanvasOf: The canvas has the size and the samples of a draw list.
--   all_of: All triangles of some batches, in order.
--   AreListed: The batches are the draw list's triangles, which write no alpha, split in any way.
--   AreDrawnInTurn: The batches are drawn one after another, each over the samples that the one before it left.
--   AreMade: The samples of a canvas that was cleared to the draw list's clear values and an alpha of one, and then drawn with the batches.
--   ArePairsOf: Two bytes for each number, of which the more significant comes first.
--
-- Parts.antt
--   AreUpper: These are the planes of the tile rows from `first` to before `at`, the upper part of those from `first` to before `end`.
--   AreUpperRows: These are the entries of the rows of pixels of the upper part, `unit` entries a pixel.

pub mod Batches
pub mod Parts
