-- The definitions of this crate, each file behind those that it uses; `python3 -m tools.definitions` writes these lines.
--
-- Layout.antt
--   IsCanvasSize: A picture is at most 4096 by 4096 pixels, and not empty (this project's limits).
--   columns_of: How many columns of tiles the picture has: its width by the 64 pixels of a tile, rounded up.
--   rows_of: How many rows of tiles the picture has: its height by the 64 pixels of a tile, rounded up.
--   planes_of_row: How many planes a tile row has.
--   planes_of_rows: How many planes the tile rows from `first` to before `end` have.
--   IsStoredIn: Sample s of pixel (i, j) is in a tile of the tile rows from `first` to before `end`.
--   HasPixel: Pixel (i, j) is in the picture, and in a tile of the tile rows from `first` to before `end`.
--   HasTile: These tile rows have a tile in a column and a row of tiles.
--   plane_of: Plane k of the tile of pixel (i, j), among those of the tile rows from `first` on.
--   stored: Sample s of pixel (i, j), as it is stored.
--   way_in_row: The way in which the block of pixel (i, j) keeps its samples, by the planes of its tile row.
--
-- Drawing.antt
--   AreCleared: Each sample of the tile rows from `first` to before `end` is this one.
--   HaveEnds: Each sample of these tile rows ends as what the triangles make, one after another, of what was stored there.
--   TileEnds: Each sample of the tile ends as what the triangles make, one after another, of what was stored in the tile's planes.
--   TileHasEnds: Each sample of the tile's own blocks ends as what the triangles make, one after another, of what was stored there.
--
-- Rows.antt
--   IsMaskOf: A triangle whose bit is not set meets no sample of the tile.
--   numbered: The triangles of these numbers; `none` stands for a number past the last triangle.
--   AreOfRow: The first numbers are those of triangles, each with the columns of tiles in which it can meet a sample of this tile row.
--   AreOfTile: Those of the triangles of these numbers that meet a sample of the tile have its column among theirs.
--
-- Hidden.antt
--   ReplacesColours: A triangle in this state gives its colour to each sample that it covers in its scissor.
--   Hides: The triangle hides the colours that are stored in the tile.
--   KeepsDepths: The triangle changes no depth and no alpha in the tile.
--   FirstKeepDepths: The first n triangles change no depth and no alpha in the tile.
--   CanBegin: The tile can begin with triangle k: it hides the colours that are stored there, and those before it no depth and no alpha.
--
-- Tiles.antt
--   planes_in: The planes of the tile in a column and a row of tiles.
--   IsUniform: All blocks of the tile in a column and a row of tiles are cleared, and all of its samples have one id.
--   AreUniform: Each tile of the tile rows from `first` to before `end` is uniform.
--   HasBytes: The channels of the sample are bytes.
--
-- Ids.antt
--   colour_of_id: An id as red, green, blue and alpha: red is its lowest byte, and alpha is opaque.
--   replacing: The state in which a colour replaces what is stored, in red, green and blue, and in alpha if the draw writes it.
--   with_id: The triangle in the colour of its id, which replaces what is stored.
--   with_ids: The triangles in the colours of their ids, which are counted from n on.
--   PassesAt: The triangle passes at sample s of pixel (i, j), at which `stored` is stored.
--   IsLast: `last` is the id of the last triangle that passed at the sample, or `before` if none did.
--   HasColourOfId: The sample has the id as its colour: red is its lowest byte.
--   HasColourOf: The sample has the colour of `start`.
--   HasId: The sample has the id as its colour, or the colour of `start` if there is no id.
--
-- Indexed.antt
--   AreIndices: The first three indices are indices of vertices, of which there are `many`.
--   indexed_vertex: The vertex of index k; past the end one at the origin, without a colour.
--   placed_by: The triangle whose vertices have these three indices, in this state.
--
-- Window.antt
--   moved_position: A position of the screen, as seen from the corner of pixel (x, y), in 1/256 pixel.
--   clamped_to_i32: The number, or the nearest one that has 32 bits.
--   moved_box: A rectangle of the screen's pixels, as seen from pixel (x, y).
--   moved_state: The state of triangles, with its scissor, as seen from pixel (x, y).
--   moved: The triangle, with its scissor, as seen from the corner of pixel (x, y).
--   CanMove: All vertices of the triangle are in the guard band as seen from the corner of pixel (x, y).
--   HaveEndsOnScreen: Each sample ends as what the triangles make of it as a sample of the screen.
--   IsSamePixel: Pixel (i, j) of a canvas at the first origin and pixel (i', j') of one at the second show the same pixel of the screen.

pub mod Layout
pub mod Drawing
pub mod Rows
pub mod Hidden
pub mod Tiles
pub mod Ids
pub mod Indexed
pub mod Window
