-- The definitions of this crate, each file behind those that it uses; `python3 -m tools.definitions` writes these lines.
--
-- Changes.antt
--   ReplacesAlone: A fragment in this state gives its colour to each sample that takes it, and changes neither depth nor alpha.
--   BlendsAlone: A fragment with this merge blends its colour over that of each sample, and changes neither depth nor alpha.
--
-- Parts.antt
--   TilePaints: The fragment is drawn at those samples of the tile that are in this part, and the others are unchanged.
--   DrawsAlike: What the fragment makes of a sample of the tile's new planes, it makes of that of its old planes too.
--   KeepsOtherBlocks: The samples of all blocks of the tile but block k are unchanged.
--   RowsPaint: The fragment is drawn at those samples of the tile rows that are in this part, and the others are unchanged.
--   block_mask: The mask of sample s of the block in a column and a row of blocks, among the masks of a tile row.
--   IsAllowed: The state lets the sample of the tile be drawn.
--   AllowsTile: The state lets each sample of the tile be drawn.
--   number_in_tile: The number of block (bx, by) among the 64 of its tile, row by row.
--   IsKeptAt: The sample is kept in the plane of this index among those of the tile.
--   HasNoMasks: The plane of this index among those of the tile has neither the masks of a block nor its further masks.
--   KeepsPlanesBut: All planes of the tile but the one of this index are unchanged.
--   DrawsPlane: Each sample of the plane takes the fragment.
--   IsFlatDrawn: The fragment is drawn at those samples of a block that are in the masks.
--   IsPaletteDrawn: The fragment is drawn at those samples of a block that are in the masks.
--   IsInBlock: The sample is in block (bx, by) and is drawn there.
--   IsInWords: The sample is in block (bx, by), and its bit is set in the mask of its index.
--   IsInColumn: The sample is in the first n rows of blocks of column `bx` of blocks and is drawn there.
--   IsFlagged: The sample is in the first n columns of blocks, from column `first` on, and is drawn there.
--
-- FewSamples.antt
--   StaysFlatDrawn: A block of one sample or two is known to stay so once the fragment is drawn at those samples that are in the masks.
--   LeavesNoPalette: A block of up to four samples has more once the fragment is drawn at those that are in the masks.
--   IsNotKeptFlat: Block k of a tile is kept neither in one sample nor in two, nor in one plane whose samples are all the same.
--   IsNotKeptInFour: Block k of a tile is not kept in up to four samples, nor in one plane whose samples are all the same.
--   DoesNotStayFlat: Block (bx, by) of the tile has one sample or two, and is not known to stay so where the fragment is drawn.
--   IsNotDrawnFlat: Block (bx, by) of the tile is not kept in one sample or two, or is not known to stay so where the fragment is drawn.
--   LeavesManySamples: Block k of the tile has more than four samples once the fragment is drawn at this part of the tile.
--   IsNotDrawnInFour: Block k of a tile is not kept in up to four samples, or has more once the fragment is drawn at this part of it.
--   IsSmallOfFour: A pixel has four samples, and there are fewer than four columns of masks.

pub mod Changes
pub mod Parts
pub mod FewSamples
