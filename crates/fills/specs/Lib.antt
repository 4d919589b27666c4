-- The definitions of this crate, each file behind those that it uses; `python3 -m tools.definitions` writes these lines.
--
-- Painting.antt
--   IsInScissor: Pixel (i, j) of the screen is in the rectangle, whose right and lower sides are outside of it (Direct3D 11, scissor test).
--   Shape: A polygon as it is drawn: its rings, its rule, one colour and one depth for all of its samples, and its draw's state.
--   MeetsSample: The polygon meets sample s of pixel (i, j) of the screen, whatever depth is stored there.
--   fragment_of: The polygon's colour and depth, which are the same at all samples.
--   Paints: What the polygon makes of sample s of pixel (i, j) of the screen.
--   PaintAll: What the polygons make of sample s of pixel (i, j) of the screen, one after another.
--   ArePainted: Each sample of the tile rows from `first` to before `end` ends as what the polygons make of it, one after another.
--   IsOriginInBand: Each pixel of a canvas of any size with this origin lies in the guard band.
--   shape_of: The polygon as it is drawn, by its corners.
--
-- Parts.antt
--   opaque_factor: A factor of colours that are opaque, without alpha: what is multiplied by alpha stays, and nothing is left beside it.
--   factor_by: A factor of colours with this alpha, without alpha if it is opaque.
--   equation_by: The equation of colours with this alpha.
--   merge_by: How the samples of a polygon are merged, by an equation for its alpha.
--   seen_fragment: The polygon's fragment as it is merged.
--   flag_columns_of: How many columns of flags the canvas needs.
--   counter_columns_of: How many columns of counters the canvas needs by the nonzero rule.
--   MeetsHere: The polygon meets sample s of pixel (i, j) of the canvas.
--   AreMasksOfRow: The flags are the masks of the samples of a tile row that the polygon covers.
--   HoldsSamples: Each sample of the canvas that lies in the box is in a column of blocks and a tile row of the window.
--   LiesInRows: Each sample of the canvas that the polygon meets lies in the tile rows from `top` to before `bottom`.
--
-- Batches.antt
--   AreFit: If there are boxes, they are those of the polygons.
--   HasCornersInBand: The corners of polygon k are inside of the guard band.
--   polygon_colour: The colour of polygon k: one of these, or that of its id, which is counted from the first one on.
--   state_of: The state: where ids are drawn, they replace what is stored.
--   shape_by: Polygon k of these arrays as it is drawn.
--   shape_in: Polygon k as it is drawn.
--   shapes_of: The polygons as they are drawn, in their order.
--   shapes_between: The polygons from k to before `end` as they are drawn, in their order.
--   HasColours: There is a colour for each of n polygons, or an id of 24 bits.
--
-- Groups.antt
--   span_of: The tile rows that the group says of polygon k.
--   SaysRowsOf: Of each polygon of the group it says in which tile rows all samples lie that it meets, if the boxes are right.
--   HasSeen: If it says of a polygon that there are some rows, the corners of this polygon are inside of the guard band.
--   CanBeDrawn: The polygons of the group can be drawn on a canvas of this size.

pub mod Painting
pub mod Parts
pub mod Batches
pub mod Groups
