-- The definitions of this crate, each file behind those that it uses; `python3 -m tools.definitions` writes these lines.
--
-- Border.antt
--   Owns: A border f = bound belongs to the side of less f, where f grows in this direction (Direct3D 11, top-left rule).
--   owns: `Owns` as a truth value.
--   IsAtMost: f is less than the bound, or it equals the bound and this side owns the border.
--   IsWithinRoot: 2 f is less than the square root of n, or it equals the root and this side owns the border.
--   IsWithinHalf: f is at most half the width times the length of a segment, whose squared length is given.
--
-- Segment.antt
--   dot: The dot product of ab and ap: how far p is from a in the direction of b, times the length of ab.
--   square_length: The square of the length of ab.
--   IsInFront: p is in front of a, seen towards b: not behind the line through a at right angles to ab.
--   IsBehind: p is behind a, seen towards b.
--   IsNearRight: p is at most half the width right of the line ab.
--   IsNearLeft: p is at most half the width left of the line ab.
--   IsInStrip: p is in the strip of the line ab: at most half the width from the line.
--   SegmentCovers: The segment ab of a stroke covers p: p is in its strip, in front of a towards b, and in front of b towards a.
--
-- Disc.antt
--   DiscCovers: The disc around c with this width covers p: p is at most half the width from c.
--
-- Cap.antt
--   IsNearBehind: p is at most half the width behind a, seen towards b.
--   CapCovers: The cap at a, where the path goes on to b, covers p (SVG 2, stroke-linecap).
--   IsAcross: z is at most half the width from c.
--   SquareCovers: The square around c with horizontal and vertical sides of this width covers p.
--   DotCovers: The path of one point c covers p: it is a cap alone (SVG 2, zero-length subpaths).
--
-- Join.antt
--   signed_square: A number times its absolute value, which grows with the number.
--   IsWithinLimit: The miter limit allows a miter at the corner abc (SVG 2, stroke-miterlimit).
--   IsMitered: The corner abc has a miter.
--   IsInMiter: The strips of the lines ab and bc both have p.
--   JoinBounds: What bounds the join at the corner abc has p.
--   IsInWedge: p is in the wedge of the corner abc: behind b, seen towards a and also towards c.
--   JoinCovers: The join at the corner abc covers p (SVG 2, stroke-linejoin): p is in the corner's wedge, and within what bounds the join.
--
-- Path.antt
--   is_same: a and b are the same point.
--   moves: The points of a path after a, without those that repeat the point before.
--   without_repeats: The points of a path without those that repeat the point before.
--   walk: The points where the pen goes: along the path, and round a closed path twice, so that it meets each of its corners.
--
-- Stroke.antt
--   IsLimit: The miter limit is at most 16, in eighths (this project's limit).
--   IsStyle: The width is at most 4,096 pixels, in 1/256 pixel (this project's limit), and the miter limit at most 16.
--   SegmentsCover: A segment of the path from a through these points covers p.
--   JoinsCover: A join of the path from a to b and through these points covers p.
--   EndCovers: The cap at the last point of the path from a to b and through these points covers p.
--   CapsCover: A cap covers p: at the first or at the last point of a path, unless it is closed.
--   WalkCovers: A pen that goes through these points covers p, by a segment, a join or a cap.
--   StrokeCovers: The stroke of the path covers p (SVG 2, computing the shape of the stroke).
--
-- Walking.antt
--   again: The points of the second round, which only a closed path has.
--   CornerCovers: What is covered around the pen's point when it goes on to the next: a cap where the path begins, and else a join.
--   StepCovers: What is covered by going on to the next point: the segment, or what is around the pen's point.
--   LastCovers: What is covered around the point where the pen ends: a dot if it went nowhere, and else a cap, unless the path is closed.
--   OnwardsCover: What is covered from here on by a pen that came from `before` and goes through these points.
--   PenCovers: The pen has covered p, or will.
--
-- Laws.antt
--   widened: The style with another width.
--
-- Lines.antt
--   edge_function: The edge function of the line at p: 0 at a point of the line, and linear in p.
--   IsOnSide: p is on this side of the line.
--   HasColumn: The span has this column.
--
-- Pieces.antt
--   IsInPair: p is on both sides.
--   IsRound: p is in the disc, if there is one.
--   IsInPiece: p is in this part of a stroke: on all of its sides, and in its disc.
--
-- Marking.antt
--   IsMarkedAt: Sample s of the pixel in a row and a column of a strip is marked: its bit in its block's mask is set.
--   HoldsBlocks: There are columns of words for all parts of a pixel's samples.
--   Marks: The samples of this part of the blocks were marked, by sample, row and column, and no other.
--   MarksShape: The samples of the blocks that a shape covers were marked, and no other.
--   IsStrokeMask: Bit 8 row + column of the mask says whether the stroke covers the sample there, in the block whose first sample is p.
--
-- Tracing.antt
--   TipCovers: What is covered from here on by a pen that goes through these points.
--   MarksOnwards: A pen marked what it covers on its way through these points.

pub mod Border
pub mod Segment
pub mod Disc
pub mod Cap
pub mod Join
pub mod Path
pub mod Stroke
pub mod Walking
pub mod Laws
pub mod Lines
pub mod Pieces
pub mod Marking
pub mod Tracing
