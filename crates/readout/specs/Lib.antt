-- The definitions of this crate, each file behind those that it uses; `python3 -m tools.definitions` writes these lines.
--
-- Straight.antt
--   straight_of: A channel c that was multiplied by alpha, divided by it: the nearest of 0 to 255, halves upwards.
--   multiplied_by: A channel c multiplied by alpha, to the nearest.
--
-- Pixels.antt
--   pixel_bytes: How many bytes a pixel has in a format.
--   pixel_of: The bytes of a pixel of this red, green, blue and alpha.
--   colour_in: Red, green and blue of these bytes of a pixel, as they are stored.
--   alpha_in: Alpha of these bytes.
--   HasAlpha: A pixel has alpha in the format.
--   IsAsStored: The channels of a pixel are those that are stored.
--   shown_rows: How many rows of pixels of the picture stand in the tile rows from `first` to before `end`.
--   IsLargeEnough: A row of pixels, of `unit` entries each, fits between the starts of two rows, and the last row ends within the slice.
--   entry_of: The index of the first entry of pixel (i, j), of which there are `unit`.
--   IsPixelRow: The row of this index among the rows of pixels in these tile rows.
--   AreWritten: The entries of each pixel of the picture in these tile rows are as `IsPixel` says, and all other entries are unchanged.
--   AreWrittenIn: The entries of those pixels in these tile rows that `IsIn` names are as `IsPixel` says.
--
-- Entries.antt
--   FitEntries: Entries, of which a pixel has `unit`, fit the tile rows from `first` to before `end`.
--   IsEntriesMisfit: What does not fit, if one of the two does not.
--
-- Colours.antt
--   IsColourOfPixel: The colour of pixel (i, j): each channel resolved from the pixel's samples, in planes from tile row `first` on.
--   AreBytesOfColour: The bytes have this colour and this alpha in the format.
--   IsAlphaOfPixel: The alpha of pixel (i, j), resolved from the pixel's samples, in planes from tile row `first` on.
--   IsSampleColour: The bytes are the colour of the sample in the format.
--   IsPixelOf: The bytes of pixel (i, j) in the format.
--   IsPixelWith: The bytes of a pixel with these samples in the format.
--   AreArranged: The bytes of eight pixels in the format, by their red, green, blue and alpha.
--   AreResolved: The bytes of each pixel of the picture in these tile rows are its colour in the format, and all other bytes are unchanged.
--   LiesInBlock: Pixel (i, j) is in a column and a row of blocks, of which the rows are counted from tile row `first` on.
--   LiesInPart: Pixel (i, j) is among the left `width` pixels of the upper `height` rows of such a block.
--   AreWrittenTo: The bytes of those pixels in these rows that `IsIn` names are as `IsPixel` says.
--   AreEntries: In these tile rows the entry of each pixel of the picture is what `entry` says of its sample s.
--   AreDepths: In these tile rows the entry of each pixel of the picture is the depth of its sample s.
--   AreIds: In these tile rows the entry of each pixel of the picture is the id of its sample s.
--   AreColours: In these tile rows the bytes of each pixel of the picture are the colour of its sample s in the format.
--
-- Loaded.antt
--   coloured: The sample in the colour of these bytes of a pixel, with their alpha if alpha is stored too, and else opaque.
--   IsIndexIn: The sample index s is one of those from `first` to before `end`.
--   AreChanged: The samples of some pixels in these tile rows end as `end_of` makes them, and all other samples are unchanged.
--   AreLoaded: All samples of each pixel of the picture in these tile rows have the colour of the pixel's bytes.
--   AreStored: Sample s of each pixel of the picture in these tile rows has the colour of the pixel's bytes.
--
-- Tiles.antt
--   IsInTile: Pixel (i, j) is in the tile in a column and a row of tiles.
--   tile_entries: How many entries a tile has: one for each sample.
--   entry_in_tile: The entry of sample s of pixel (i, j) among those of its tile.
--   said_of: What the entries say of sample s of pixel (i, j): one entry speaks for all samples of the tile.
--   FitTile: The entries fit the tile: these tile rows have it, and there is an entry for each of its samples.
--   FitTileOrOne: The entries fit the tile, or one stands for all of them.
--   IsTileMisfit: What does not fit, if one of the two does not: the tile first, and then `Fit`.
--   AreTileIds: The entries are the ids of the samples of a tile.
--   IsIdCount: The number of ids that are written of a tile: one if it is uniform, else one for each sample.
--   with_colour: The sample in the colour of this number, red its lowest byte.
--   AreTileColours: The samples of a tile have the colours that the entries say, and the depths that they had.

pub mod Straight
pub mod Pixels
pub mod Entries
pub mod Colours
pub mod Loaded
pub mod Tiles
