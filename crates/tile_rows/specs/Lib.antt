-- The definitions of this crate, each file behind those that it uses; `python3 -m tools.definitions` writes these lines.
--
-- TileRows.antt
--   tiles_in: How many tiles these tile rows have.
--   AreTilesOf: The pixels of all tiles of these tile rows.
--   AreBinsOf: The bins of all tiles of these tile rows.
--   HaveBins: Bins that have those of all tiles of the tile rows from `first` to before `end`, and may have others.
--   HaveBinsOf: Bins that have those of all tiles of these tile rows, and may have others.
--   AreBytesOf: The bytes of the rows of pixels of these tile rows.
--   IsBeside: What the calling thread makes while these tile rows are drawn: the bytes of those above, and the bins of those below.

pub mod TileRows
