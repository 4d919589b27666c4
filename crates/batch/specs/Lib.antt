-- The definitions of this crate, each file behind those that it uses; `python3 -m tools.definitions` writes these lines.
--
-- Equations.antt
--   factor_numbered: The factor with this number of D3D11_BLEND, and the default for 0.
--   operation_numbered: The operation with this number of D3D11_BLEND_OP, and Add for 0.
--   equation_with: An equation of these parts, all three of which have to be known.
--   equation_numbered: The equation with these numbers: by default one, zero, add.
--   IsFactor: There is a factor with this number.
--   HasKnownFactors: Each factor of the caller's blending is one that there is.
--   HasKnownOperations: Both operations of the caller's blending are ones that there are.
--   blend_numbered: The blend state by the caller's numbers, with alpha written or not.
--
-- Strides.antt
--   IsStride: The bytes from a vertex to the next.
--   vertex_of_bytes: The vertex of these 16 bytes, laid out as in C: the lowest byte of each number is the first.
--   vertex_in: Vertex k: the 16 bytes at k times the stride.
--   vertices_from: This many vertices, of which the first is vertex `begin`.
--   strided_vertices: All vertices whose 16 bytes are there: each k with k * stride + 16 at most the number of the bytes.
--
-- Vertices.antt
--   vertices_given: The vertices of a batch, however a caller has them.
--
-- States.antt
--   state_checks: The numbers are in range that say what primitives a draw has, and its state.
--
-- OwnIndices.antt
--   indices_given: The indices of a batch, if it has any, whichever bits they have.
--   count_of_indices: How many indices there are.
--   indices_behind: The indices behind the first ones.
--   own_indices: The indices of a draw: the first ones, or without any its vertices in their order.
--
-- Ranges.antt
--   IsVertexInRange: The coordinates of a vertex are in the guard band.
--
-- Places.antt
--   places_of: The places of the indices of triangle m among those of its draw: of triangles, of a strip, of quads.
--
-- Listed.antt
--   cull_listed: A culling by its number: 0 is none, 1 is front, and 2 is back.
--   depth_test_listed: A depth test by its number: 0 always, 1 never, 2 <, 3 =, 4 at most, 5 >, 6 not =, 7 at least.
--   vertex_listed: A vertex by the caller's numbers.
--   is_written: A channel is written if its bit, which has this weight, is not set among those that are kept.
--   everywhere: All pixels whose column and row have 32 bits: a scissor that cuts nothing.
--   scissor_listed: The pixels of the screen that a draw draws: all, or those of its scissor if that is looked at.
--   state_listed: The state of a draw by the caller's numbers, on a canvas that has alpha or not.
--   corners_of: How many indices each primitive of a topology takes: 0 is triangles, 1 a strip, 2 quads.
--   quads_of: The quads of indices, four each.
--   primitives_listed: The primitives of a topology with these indices, one primitive's after another's.
--   draw_listed: A draw on a canvas that has alpha or not, whose vertices and indices are the first of these.
--   draws_listed: Draws in their order: the vertices and indices of each follow those of the draw before it.
--   whole_draw: One draw of these vertices and indices, whose other numbers are zero.
--   draws_of: The draws of a batch: those of the caller, or else one of all vertices and indices.
--
-- Causes.antt
--   number_of: The number of each cause in C.
--   of_draw: What is wrong with a draw as a whole.
--   at_element: What is wrong with one of a draw's indices, vertices or quads, by its index in the draw's own array.
--   bad_index: An index that names no vertex: its index in the draw's own array, and its value.
--   in_draw: What is wrong with the draw of this number.
--   left_over: A vertex or an index is in no draw.
--
-- Seen.antt
--   vertex_at: The vertex of this index; past the end one of zeros, which no triangle of a batch names.
--   CanBeSeen: The vertex is in the guard band, and also as it is seen.
--   AreSeen: Each vertex that an index names is in the guard band, and also as it is seen.
--   NameSeenVertices: Each of these indices names a vertex, which can be seen.
--   vertex_seen: The vertex as it is seen.
--   draws_seen: The triangles of draws in draw order, as a draw list has them, seen from the corner of pixel (x, y).
--   triangles_seen: The triangles of a batch on a canvas that has alpha or not.
--
-- Ids.antt
--   drawn_as: The triangles as they are drawn.
--   HasIds: There are ids of 24 bits for this many triangles, where they need any.
--   ids_after: The first id of the triangles that follow this many.
--
-- Checks.antt
--   IsQuadSeen: The vertices of a quad can be seen, and are the corners of a strictly convex quad.
--   each_check: A check for each element, of which the first is numbered `number`.
--   index_checks: Each index names one of this many vertices.
--   position_checks: Each vertex that an index names can be seen.
--   quad_checks: If the primitives are quads, each of them is seen and strictly convex.
--   element_checks: The elements of a draw of these vertices: its indices, then the vertices that they name, then its quads.
--   primitives_checks: The primitives of a draw of these vertices.
--   opening_checks: The checks of a draw that come before its vertices and primitives.
--   draw_checks: A draw, whose vertices and indices are the first of these.
--   triangles_listed: How many triangles a draw has, whose indices are the first of these.
--   draws_checks: The checks of draws, numbered from `number` on: those of each in turn, and then that no vertex and no index is left.
--   batch_checks: The checks of a batch.
--
-- Parts.antt
--   seen_from: The triangle of the vertices with these indices, as it is seen from the origin.
--   all_seen: The triangles of primitives of this topology in draw order, as they are seen from the origin.

pub mod Equations
pub mod Strides
pub mod Vertices
pub mod States
pub mod OwnIndices
pub mod Ranges
pub mod Places
pub mod Listed
pub mod Causes
pub mod Seen
pub mod Ids
pub mod Checks
pub mod Parts
