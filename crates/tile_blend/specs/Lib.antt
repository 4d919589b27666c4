-- The definitions of this crate, each file behind those that it uses; `python3 -m tools.definitions` writes these lines.
--
-- Fragments.antt
--   tile_masks: How many masks a tile has: one for each sample index of each block.
--   mask_in_tile: The mask of sample index s of the block of pixel (i, j) among those of its tile.
--   entry_or_one: Entry n, or the one entry that stands for all.
--   fragment_in: The fragment of a colour, red its lowest byte and alpha its highest one, and a depth.
--   fragment_at: The fragment of entry n.
--   IsInMasks: The masks keep sample s of pixel (i, j): the pixel's bit is set.
--   IsEachOrOne: Of an array of entries there is one for each sample or mask, or one for all.
--   AreFragments: The sizes of arrays of colours, depths and masks are those of a tile, or 1 where one stands for all.
--   FitFragments: The fragments fit the tile: these tile rows have it, and the arrays have as many entries as it.
--   TakesIf: What a sample becomes: it takes the fragment if it is kept, and else is unchanged.
--   IsTileChanged: The samples of a tile become what R says of them, and all other samples are unchanged.
--   TakesKept: What the fragments make of sample s of pixel (i, j): it takes its own if it is kept.
--   IsTileBlended: Each kept sample of a tile takes its fragment, and all other samples are unchanged.

pub mod Fragments
