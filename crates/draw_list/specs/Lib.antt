-- The definitions of this crate, each file behind those that it uses; `python3 -m tools.definitions` writes these lines.
--
-- Primitives.antt
--   PrimitiveListing: Primitives by the indices of their vertices, wherever they lie in memory.
--   strip_triangle: The indices of triangle m of a strip: those at m, m + 1, m + 2 if m is even, and at m, m + 2, m + 1 if m is odd.
--   strip_count: How many triangles a strip of this many indices has.
--   quad_triangles: The quad abcd is drawn as the two triangles on either side of its diagonal ac: abc, and then cda.
--   quads_count: How many triangles this many quads have.
--   triangles_of: The triangles of primitives in draw order, each by the indices of its vertices.
--   count_of_triangles: How many triangles primitives are.
--   vertex_position: The position of the vertex of this index; the origin past the end.
--   IsConvexOver: The vertices that a quad names are the corners of a strictly convex quad, in its order.
--   IsQuadOver: The quad names four of the vertices, and is strictly convex.
--   AreOver: Primitives over these vertices: each names vertices that there are, and each quad is strictly convex.
--   primitive_listing: The listing of primitives in memory.
--
-- Scene.antt
--   Scene: What the picture of a draw list is drawn from.
--
-- Listing.antt
--   DrawListing: A draw, wherever it lies in memory: its state, its vertices and its primitives.
--   Listing: A draw list, wherever it lies in memory.
--   vertex_of: The vertex of this index; the origin past the end, which no triangle of a draw list names.
--   triangle_of: The triangle of three vertices in this state.
--   placed: A triangle of a draw, with the vertices that its indices name and the draw's state.
--   placed_all: The triangles of a draw, in the order of its primitives.
--   scene_of: The scene of a draw list.
--   IsDrawWithinLimits: A draw has at most 65536 vertices, and primitives over these alone (this project's limits).
--   AreWithinLimits: There are at most 1024 draws, each within its limits, and 65536 triangles (this project's limits).
--   IsListingWithinLimits: A picture is at most 4096 by 4096 pixels and not empty, and the draws are within their limits (this project's).
--   draw_listing: The listing of a draw in memory.
--   listing_of: The listing of draws in memory, with the picture's size, samples, clear values and output.
--   listing_on: The listing of draws in memory on a target, which has the picture's size, samples, clear values and output.
--
-- Rows.antt
--   pixel_row: The row of pixels of a y in 1/256 pixel: the y by 256, rounded down.
--   least_y: The least y of a triangle's vertices, in 1/256 pixel.
--   greatest_y: The greatest y of a triangle's vertices, in 1/256 pixel.
--   IsRowSpan: The span has the rows of pixels from that of the triangle's least y to that of its greatest, cut to the screen.
--   AreRows: The rows of triangles, in the triangles' order.
--
-- Starts.antt
--   AreStarts: The number of each draw's first triangle: how many triangles the draws before it have.
--   IsDrawOfTriangle: The draw in which the triangle of a number stands: the last one that starts at the number or before it.
--   AreOwners: The draws of the triangles at every sixteenth number.
--
-- Place.antt
--   IsPlace: The triangle of this number in draw order stands in this draw, and behind as many triangles of the draw as its number there.
--
-- Picture.antt
--   picture_box: All pixels of a picture of this size.
--   IsEnd: The final value of sample s of pixel (i, j): what all triangles make of the clear colour and depth.
--   IsColour: The colour of pixel (i, j): each channel resolved from the final values of the pixel's samples.
--   IsColourPixel: Pixel (i, j) of a picture of colours: red, green and blue.
--   IsDepthPixel: Pixel (i, j) of a picture of depths: the final depth of the pixel's sample 0, in two bytes.
--   PixelOf: The bytes of pixel (i, j) of a picture that shows this: a colour or a depth.
--   IsPixel: The bytes of pixel (i, j), by what the picture shows.
--   output_pixel_bytes: How many bytes a pixel has: three of a colour, two of a depth.
--   pixel_at: The bytes of pixel n, of the bytes of pixels one after another.
--   IsPicturePart: The bytes of a rectangle of the picture, whose upper left pixel is (x, y).
--   IsPicture: The bytes of the whole picture.
--
-- View.antt
--   listing: What a draw list in memory holds.
--   IsKept: What each draw list in memory keeps: its limits, and what look-ups need.
--
-- PixelPrefix.antt
--   IsPixelPrefix: The bytes of the first n pixels of a rectangle of this width, whose upper left pixel is (x, y), row by row.
--   IsPixelRun: The bytes of `many` pixels of one row, from pixel (i, j) to the right.
--   AddsPixel: The new bytes are the old ones, and behind them those of pixel (i, j).
--
-- Fault.antt
--   kind_number: The number of each kind of error in a draw list.
--   name_of: The name of each kind of error in a draw list.
--   outside: An error of this kind that is in no draw.
--   fault_in_draw: An error of this kind in the draw of this number.
--
-- Defaults.antt
--   default_state: The state of a draw without any key of a state, on a picture of these pixels.

pub mod Primitives
pub mod Listing
pub mod Scene
pub mod Rows
pub mod Starts
pub mod Place
pub mod Picture
pub mod View
pub mod PixelPrefix
pub mod Fault
pub mod Defaults
