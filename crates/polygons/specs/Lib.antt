-- The definitions of this crate, each file behind those that it uses; `python3 -m tools.definitions` writes these lines.
--
-- Crossing.antt
--   CrossesDown: The edge is crossed downwards at p.
--   IsLineAtOrLeft: The line of an edge that runs downwards is, at the height of p, at p or left of it.
--   CrossesUp: The edge is crossed upwards at p: it runs upwards, with the same range of heights and the same side of the line.
--   is_crossed_down: Whether the edge is crossed downwards at p.
--   is_crossed_up: Whether the edge is crossed upwards at p.
--   downs: How many edges are crossed downwards at p.
--   ups: How many edges are crossed upwards at p.
--   crossings: How many edges are crossed at p.
--   winding: The sum of the directions of the crossed edges: 1 for each that is crossed downwards, -1 for each that is crossed upwards.
--   IsInsideBy: This number of crossings and this winding number mean inside, by the rule.
--   is_inside: Whether p is inside of what the edges bound, by the rule: `IsInside` as a truth value.
--   IsInside: p is inside of what the edges bound, by the rule.
--
-- Polygon.antt
--   path_edges: The edges of the path from a corner through others.
--   path_end: The last corner of the path.
--   ring_edges: The edges of a ring: from each corner to the next, and from the last to the first.
--   polygon_edges: The edges of a polygon: those of its rings.
--   PolygonCovers: The polygon covers p by the rule.
--   corner_count: How many corners the rings have, which is how many edges.
--
-- Rings.antt
--   position_of: Where a corner lies.
--   corners_between: Where the corners from index `begin` to before `end` lie.
--   AreCornersInBand: All corners are inside of the guard band.
--   AreAscendingEnds: Each ring, the first of which begins at `start`, ends no earlier than it begins, and the next one begins there.
--   end_of: The index behind the last ring's last corner.
--   rings_from: The rings of these corners, by where the first begins and by the index behind the last corner of each.
--   IsInExtent: The point is in the box, whose right and lower sides are outside of it.
--   IsInClosedExtent: The point is in the box or on its border.
--   IsExtentWithin: All of the first box is in the second one.
--   nothing: The box of no points.
--   IsLeastExtent: The box is the least that holds these points: each other that holds them holds it.
--   HoldsInside: By either rule the edges have nothing inside but in the box.
--
-- Arrays.antt
--   begin_of: Where part k begins: where the one before it ends.
--   first_corner: The index of the first corner of polygon k.
--   ends_of: The ends of the rings of polygon k.
--   rings_of: The rings of polygon k.
--   AreAscending: No part ends before the one before it.
--   AreParts: The parts end one after another, and the last one with the whole, which has n elements.
--   polygon_corners: Where the corners of polygon k lie.
--   IsPolygonInBand: The corners of polygon k are inside of the guard band.
--   ArePolygons: The arrays are those of polygons.
--   box_at: The box of number k.
--   AreBoxesOf: All corners are inside of the guard band, and each of polygon k is in box k or on its border.
--   BoxesFit: If there are boxes, they are those of the polygons.
--   AreLeastBoxesOf: All corners are inside of the guard band, and box k is the least one that holds those of polygon k.
--   KeepsBoxesFrom: The boxes from number n on are unchanged.
--   IsFirstFall: Part k is the first that ends before it begins, or behind the whole, which has n elements.
--   IsShort: The last part ends before the whole does, which has n elements.
--   IsFirstOutside: Corner k is the first outside of the guard band.
--   IsWrong: What is first wrong with the arrays.
--
-- PolygonRuns.antt
--   run_box: The box of the run of polygon k.
--   HoldsPolygons: By either rule no polygon has anything inside but in the box of its run.
--
-- Laws.antt
--   reversed: The edge in the other direction.
--   CrossingsAdd: The crossings of two lists of edges together are the sum, and so is the winding number.
--   AreOpposite: An edge is crossed downwards where its reverse is crossed upwards.
--   SharedEdgesCancel: Edges that one polygon has in one direction and its neighbour in the other cancel.
--   translated: A position translated by a distance in each coordinate.
--   translated_edge: An edge translated by a distance in each coordinate.
--   MovesAlong: What is inside moves with the edges.
--
-- Junctions.antt
--   parts_at: The two parts of an edge that is cut at q: from its first end to q, and from q to its second end.
--   IsInSliver: The triangle between the edge and its two parts covers p, by the top-left rule.
--   IsCrossedAsParts: At p the edge is crossed downwards as often as its two parts together, and upwards as often as they are.
--   CountsAsParts: At p the edge counts as much as its two parts together: in the winding number, and in the parity of crossings.
--   AreParts: The parts are the edges of the first list, each whole or cut, and cut edges may be cut again.
--   HaveSameParts: Whole or cut, the edges of both lists are the same edges, in some order.
--   edge_to_next: The edge of a ring from the last corner of a path to the corner after it.
--   HasCornerMore: The rings `more` are the rings `rings`, but one has the further corner q, which cuts its edge e.
--
-- Partition.antt
--   all_edges: The edges of all cells together.
--   covering: How many of the cells p is inside of, by the rule.
--   AreSameEdges: The lists have the same edges, each in either direction.
--   IsOutline: At p the cells have the edges of the outline once, and besides only edges that occur twice, in any directions.
--   IsFitted: At p the cells have the edges of the outline once, and besides only edges that occur twice, once in each direction.
--   HasParityOf: By the even-odd rule p is inside of an odd number of cells if and only if it is inside of their outline.
--   WindForwards: No cell winds backwards around p, as none does whose rings run clockwise around its inside.
--   IsPartition: If the outline winds around p once, p is inside of exactly one cell, and of none if the outline does not wind around p.
--
-- Columns.antt
--   along: The position k pixels to the right of p, or to the left if k is negative.
--   below: The position one pixel below.
--   HasHeight: The half-open range of heights of an edge that runs downwards holds this height.
--   IsFirstColumn: Of the samples that lie a whole number of pixels from p, those from column c on are crossed, and no other.
--   Walk: An edge that runs downwards, and the sample of column 0 in one of the rows that it runs through.
--   IsAtColumn: The edge function at the first column, by its absolute value in 256 times 1/65536 square pixel, rounded down.
--   IsEdgeStep: The edge's width as a quotient and a remainder by its height.
--   IsSlope: The slope is that of an edge that runs downwards.
--
-- Pixels.antt
--   IsFirstPixel: Of the coordinates whole pixels from `start`, the one n pixels behind it is the first that is not before `to`.
--
-- Short.antt
--   IsShortEdge: The edge is less than a pixel wide and at most a pixel high.
--   AreNearRows: Each of four rows is at most 2 ^ 17 rows away.
--
-- Rows.antt
--   parity: Whether an odd number of the first n flags are set: 1 or 0.
--   direction: The direction in which one edge is crossed at p: 1 downwards, -1 upwards, 0 if it is not crossed.
--   sum_to: The sum of the first n counters.
--   from_column: This number if the column is at k or left of it, else 0.
--
-- Blocks.antt
--   down: The position this many pixels below p.
--   in_block: The sample in a row and a column of a block, whose first sample is p.
--   IsBlockMask: Bit 8 row + column of the mask says whether the sample there is inside of the edges by the rule.
--
-- ManyRows.antt
--   row_of: Row r, by its words.
--
-- Screen.antt
--   IsPixelInBand: The pixels of a column or a row of the screen lie inside of the guard band.
--   screen_sample: The position of sample s of pixel (i, j) of the screen, whose upper left corner is at (256 i, 256 j).
--
-- Strip.antt
--   start_of: Where the first pixel of a strip has sample s.
--   strip_sample: Where the pixel in a row and a column of a strip has sample s.
--   AreFirstRows: Of each sample of a part, the first row of a strip that is not above the height y.
--
-- Walking.antt
--   if_below: A number if z is below 0, else 0.
--   corner_of: The upper left corner of the pixel in a row and column 0 of a strip.
--   IsSmallStep: The sizes of the numbers by which an edge goes from row to row.
--   IsDescent: An edge that runs downwards, seen from a corner, and the rows of a strip outside of which no sample has its height.
--   IsWalked: The columns and rests of a row.
--   IsNextRow: A sample's column and rest, and those of the row below.
--
-- Crossed.antt
--   IsCrossedFrom: The edge runs through this row of a strip at a sample, and from this column on it is crossed.
--   IsMissed: The edge runs through no row of a strip at that sample.
--   AreCrossed: The bits say at which samples of a strip the edge runs through a row, and the numbers say where.
--
-- Placed.antt
--   AreInOneBlock: All crossings lie in one block, each at the pixel of its bit there.
--
-- Apart.antt
--   IsAbove: Both ends are at the upper border of the strip, or above it.
--   IsBelow: Both ends are at the lower border of the strip, or below it.
--   IsRight: Both ends are right of each pixel of these columns of blocks.
--   IsApart: One of these.
--   LiesBeside: No sample in these columns of blocks is in the box.
--
-- Runs.antt
--   corner_at: Where corner i lies.
--   IsCrossedAsChord: The path from a corner through others winds around p as the edge from its first corner to its last one does.
--   box_of: The box of a run.
--   AreRunsOf: Each box holds the corners of its run and the one behind it.
--
-- Cells.antt
--   part_columns: The columns of a part.
--   mask_at: The mask of sample s of the block in a column and a row of blocks.
--   word_of: The word of a sample's row in a column of blocks: of each row of blocks there are four.
--   bit_in_block: The bit of a pixel in its block.
--   flag_of: The flag of sample s of the pixel in a row and a column.
--   counter_at: The counter of that sample.
--   down_flag: The first flag of that sample by the nonzero rule, of an edge that runs downwards.
--   up_flag: The second one, of an edge that runs upwards.
--   more_flag: The third one, of a counter in use.
--   in_use: The number in a counter, if its flag is set, else 0.
--   cell: What stands at a sample for the rule: a flag; or the first flag less the second, and the number in the counter.
--   running_sum: The sum of what stands in a row up to column k.
--   modulus: Flags are sums modulo 2, and windings modulo 2 ^ 32.
--   IsAlike: The numbers differ by a multiple of m.
--   flags_by: How many flags a sample has by the rule.
--   columns_in: How many columns of blocks there are.
--   HasCounters: The nonzero rule has three columns of flags and one of counters for each column of blocks.
--   AreMarked: A counter is in use only if one of the other flags is set.
--   signed: The number, or its opposite.
--   IsEdgeCounted: An edge was counted by the nonzero rule at sample s of the pixel in a row and a column.
--   added_by: What an edge that runs downwards adds at the samples of one index, by row and column.
--   IsAdded: To the sums of sample s in the rows from `first` to before `end` a number was added, by row and column; no other was changed.
--   IsPlotted: To the sums at each sample of a part of a strip a number was added, which depends on where the sample lies.
--   AreZeros: All flags are 0.
--   AreZerosFrom: All flags from a column on are 0.
--   AreMasksAlone: Of each part's columns those from this one on are zeros.
--   AreSumMasks: Each bit of these masks says whether the sum of its row up to it is other than 0.
--
-- Plotting.antt
--   AreNearColumns: The columns of four samples.
--   HasRow: The rows of sample s, from one to before another, hold this row.
--   IsRowCounted: An edge was counted in a row by those of the first n samples of a part whose rows hold it, each from its column on.
--   HasParts: Each part of a strip's samples has its columns of flags, and by the nonzero rule of counters.
--   AreSame: The cells are the same memory with the same parts, and count by the same rule.
--   IsPlottedIn: To the sums at each sample of a part of the cells a number was added, which depends on where the sample lies.
--   IsPartPlotted: To the sums at each sample of one part a number was added, and the other parts are unchanged.
--   ArePlotted: To the sums at each sample of a strip a number was added, which depends on where the sample lies.
--   IsPolygonPlotted: At each sample of a strip the edges of a polygon were counted.
--
-- Spreading.antt
--   IsCarry: Of the rows of a word of 8 by 8 bits no more than the first bit of each is set.
--   IsFilled: Each bit is the parity of the carry into its row and of the flags of the row up to it.
--   IsNextCarry: The carry into the next word is the parity of the carry and of all flags of a row.
--
-- Summing.antt
--   marks_of_word: The flags of word i of a column.
--   HasFirstMarked: A counter is in use only if one of the other flags is set.
--   number_in: The number of cell i of a word, or more by a multiple of 2 ^ 32.
--   run: The sum of a number and of n further ones from `from` on, modulo 2 ^ 32.
--   nonzero_bit: 1 if the number is other than 0.
--   change_bit: 1 if one of the numbers is 0 and the other is not.
--   change_at: Whether cell i of a word changes the sum of its row from 0 to another number, or from another number to 0: 1 or 0.
--   IsLevelMask: The mask of word i of a column if it has no flags.
--   IsSummed: The mask and the sums of a word's rows.
--   AreInBytes: The lanes are the numbers of a word's cells modulo 256.
--
-- BitPlanes.antt
--   AreWhole: Each plane has 32 rows.
--   cell_number: The number of a cell in a row and a column, from 0 to 31: each plane has one of its bits.
--
-- FourSums.antt
--   first_number: What the first flags say of cell i of a word: 1, 0 or -1, modulo 2 ^ 32.
--   HasOneFlagAtMost: A row of eight cells has one flag at most, of either kind.
--   AreSmall: The sums of 32 rows are from -8 to 7.
--   AreRowsSummed: The masks of 32 rows of eight cells and the sums at their ends, by their flags and the sums before.
--   AreSummed: The masks of the four words of a row of blocks, by their rows, and the sums at the ends of these.

pub mod Crossing
pub mod Polygon
pub mod Rings
pub mod Arrays
pub mod PolygonRuns
pub mod Laws
pub mod Junctions
pub mod Partition
pub mod Columns
pub mod Pixels
pub mod Short
pub mod Rows
pub mod Blocks
pub mod ManyRows
pub mod Screen
pub mod Strip
pub mod Walking
pub mod Crossed
pub mod Placed
pub mod Apart
pub mod Runs
pub mod Cells
pub mod Plotting
pub mod Spreading
pub mod Summing
pub mod BitPlanes
pub mod FourSums
