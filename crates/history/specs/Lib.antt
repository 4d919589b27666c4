-- The definitions of this crate, each file behind those that it uses; `python3 -m tools.definitions` writes these lines.
--
-- Edge.antt
--   IsOutsideEdge: p lies strictly on the other side of the edge ab than the third vertex c.
--   IsOnUncoveredEdge: The edge function of ab is zero at p, and ab is neither a top nor a left edge of the triangle with third vertex c.
--   FailsEdge: Either reason why p fails the top-left rule at an edge of a triangle that has an area.
--   IsEdgeAt: The edge function of ab at p, and each reason exactly when it holds.
--
-- Event.antt
--   IsMasked: Bit s of the sample mask is clear.
--   AreReasons: Each reason why the triangle misses sample s of pixel (i, j) is reported exactly when it holds.
--   HasReason: One of the reasons holds.
--   PassesDepth: The triangle covers p, and the depth of its fragment there passes the depth test against the stored depth.
--   FailsDepth: The triangle covers p, and the depth of its fragment there fails the depth test against the stored depth.
--   IsEvent: What triangle t did to sample s of pixel (i, j).
--
-- Changed.antt
--   IsChangedBy: Triangle n changes sample s of pixel (i, j): what the sample stores after triangle n is not what it stored before it.
--   Shows: Sample s of pixel (i, j) still shows triangle n after all triangles: triangle n is the last that changes the sample.
--   IsFollowed: What sample s of pixel (i, j) stores after these triangles, whether triangle n changes it, and whether it shows triangle n.
--
-- Samples.antt
--   IsSum: total is the sum of the numbers that P gives for 0 to before n.
--   IsOneIf: 1 where P holds, and else 0.
--   AreMetInPixel: How many samples of pixel (i, j) the triangle meets.
--   AreMetInRow: How many samples of row j of a picture of this width the triangle meets.
--   AreSamples: How many samples of a picture of this width and height have P, which is asked of sample s of pixel (i, j).
--   AreMet: How many samples of a picture of this width and height the triangle meets.
--
-- History.antt
--   AreEvents: The events of the triangles at sample s of pixel (i, j), one for each, in draw order.
--   Place: Where a history stands: the triangles to come at sample s of pixel (i, j), and the sample that is stored there.
--   moved_behind: The place of the sample behind these triangles, with those to come, and this sample stored.
--   EndsWith: What the sample becomes by the triangles to come.
--   IsNext: The event is that of the first triangle to come, and the history stands behind it.
--   IsCoveredBy: The triangle covers the sample.
--   AreUncovered: The triangles do not cover the sample.
--   IsBehindUncovered: The history stands behind triangles that do not cover the sample.
--   IsNextCovered: The event is that of the first triangle to come that covers the sample, and the history stands behind it.
--   IsCountOf: How many of the events have P.
--   Changes: The event changes the sample.

pub mod Edge
pub mod Event
pub mod Changed
pub mod History
pub mod Samples
