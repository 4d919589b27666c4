-- The definitions of this crate, each file behind those that it uses; `python3 -m tools.definitions` writes these lines.
--
-- Counts.antt
--   CoversSample: Triangle n of the list covers sample s of pixel (i, j), whether or not it is culled, scissored or masked there.
--   AreCountsOf: How many samples of the picture triangle n covers, how many it changes, and how many still show it in the end.
--   AreCountsAt: Of sample s of pixel (i, j) alone: each count is 1 or 0.
--   no_counts: No samples.
--   both_counts: The counts of two sets of samples together.
--   AreCountSums: The counts are the sums of those that P gives for 0 to before n.
--   AreAtMost: No count exceeds m.
--   HoldColumns: The columns `some` hold each column of `all` in which the triangle covers a sample of the screen.
--   HoldCovered: The columns hold each one of the picture in which triangle n covers a sample.
--   IsRowAfter: In these columns, the row has samples s of row j of the picture after k triangles, and what triangle n did to them.
--
-- Walk.antt
--   ListPlace: Where the history of a sample of a list's picture stands.
--   history_start: Where the history of sample s of pixel (i, j) begins: before the first triangle, with the clear colour and depth.
--   IsPlaceOfList: The triangles to come are those of the list from the number on, and they end with the picture's sample.
--   IsNextOfList: The event is that of the next triangle, with its draw and what that writes, and the history stands behind it.
--   IsNextCoveredOfList: The event is that of the first triangle to come that covers the sample, and the history stands behind it.

pub mod Counts
pub mod Walk
