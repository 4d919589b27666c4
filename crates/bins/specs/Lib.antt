-- The definitions of this crate, each file behind those that it uses; `python3 -m tools.definitions` writes these lines.
--
-- Bin.antt
--   MeetsRect: The triangle meets a sample of a pixel of the rectangle, whatever depth is stored there.
--   IsBin: The bin is strictly ascending, and has numbers of triangles, among them that of each triangle that is needed.
--   IsBinOf: A bin of tile k: it has each triangle that meets a sample of the tile.
--   TileBins: The bins of consecutive tiles, and the number of the first of these tiles.
--   HasBin: Tile k is one of those whose bins these are.
--   bin_of: The bin of tile k, and an empty one if the tile has none here.
--   AreBins: The bins of these tile rows, each with the triangles that meet its tile.
--   AreOfTiles: Each of these bins is one of its tile.
--   AreBinsFrom: The bins of some tile rows from this one on, at least one.
--
-- Parts.antt
--   part_of: Part k of a list, which goes from its start to the start of the next.
--   all_parts: All parts of a list, in their order.
--   ArePartStarts: The starts cut the numbers: none is less than the one before it, or past the end.
--
-- TileRuns.antt
--   has_tile: Whether a run has this tile.
--   triangles_at: The triangles whose runs have the tile, in the order of the runs.
--   IsTileRunOver: The run lies within the first `tiles` tiles.
--   IsVisitedBefore: Triangle m comes before triangle n; or it is that one, and the tile stands above the row.
--   AreTileRuns: The runs of the triangles before number n, and of triangle n in the first `row` of these tile rows.
--   AreCandidates: The numbers of the triangles before number n that can meet a tile of these rows, in draw order.
--
-- Sorting.antt
--   start_at: How many triangles the tiles before this one have together.
--   AreCounts: The counts are a zero, and then how many triangles each tile has.
--   ArePlaces: The places are a zero, and then for each tile the index after those of its triangles that are placed.
--   ArePlaced: The triangles of each tile that are placed stand from the tile's start on, in their order.
--
-- Fetched.antt
--   AreFetched: Element k of the triangles is the one whose number stands at index first + k, while there are numbers.
--   IsBefore: Triangles of these numbers have been fetched up to the one at this place, or just before it.
--   Has: The triangle whose number stands at this place is among those that have been fetched.

pub mod Bin
pub mod Parts
pub mod TileRuns
pub mod Sorting
pub mod Fetched
