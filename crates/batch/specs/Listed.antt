-- What a caller's arrays list.
use Rattle.std.specs.Prelude.{ℕ, ◌-◌, ◌/◌, ◌%◌, ◌==◌, pos, negsuc, if◌then◌else◌, Bool, false, Option, List, [], ◌∷◌, length, map, take, drop}
use Rattle.std.specs.Simd.{first_chunks}
use Rattle.grid.specs.declared.cull.Cull.{Cull}
use Rattle.grid.specs.declared.cull.Cull.TheVariants as cull
use Rattle.grid.specs.declared.pixels.PixelBox.{PixelBox}
use Rattle.shade.specs.declared.depth.DepthTest.{DepthTest}
use Rattle.shade.specs.declared.depth.DepthTest.TheVariants as test
use Rattle.shade.specs.declared.state.State.{State}
use Rattle.draw_list.specs.declared.draw.Vertex.{Vertex}
use Rattle.draw_list.specs.Primitives.{PrimitiveListing, triangle_list, triangle_strip, quad_list}
use Rattle.draw_list.specs.Listing.{DrawListing}
use Rattle.batch.specs.declared.draw.BatchDraw.{BatchDraw}
use Rattle.batch.specs.declared.vertex.BatchVertex.{BatchVertex}
use Rattle.batch.specs.Equations.{blend_numbered}
use Rattle.batch.specs.OwnIndices.{count_of_indices, indices_behind, own_indices}

-- ---- numbers for words

-- A culling by its number: 0 is none, 1 is front, and 2 is back.
abbrev pub cull_listed : ℕ → Cull
cull_listed n = if n == 0 then cull.None else (if n == 1 then cull.Front else cull.Back)

-- A depth test by its number: 0 always, 1 never, 2 <, 3 =, 4 at most, 5 >, 6 not =, 7 at least. They compare the new depth with the
-- stored one. The numbers are those of D3D11_COMPARISON_FUNC, but 0 in place of 8.
abbrev pub depth_test_listed : ℕ → DepthTest
depth_test_listed n =
    if n == 0 then test.Always
    else (if n == 1 then test.Never
    else (if n == 2 then test.Less
    else (if n == 3 then test.Equal
    else (if n == 4 then test.LessEqual
    else (if n == 5 then test.Greater
    else (if n == 6 then test.NotEqual
    else test.GreaterEqual))))))

-- ---- a vertex, a draw's state and its primitives

-- A vertex by the caller's numbers.
abbrev pub vertex_listed : BatchVertex → Vertex
vertex_listed v = record { at = record { x = v.x; y = v.y }; z = v.depth; rgba = v.red ∷ v.green ∷ v.blue ∷ v.alpha ∷ [] }

-- A channel is written if its bit, which has this weight, is not set among those that are kept.
abbrev pub is_written : ℕ → ℕ → Bool
is_written keep weight = (keep / weight) % 2 == 0

-- All pixels whose column and row have 32 bits: a scissor that cuts nothing.
abbrev pub everywhere : PixelBox
everywhere = record { x0 = negsuc 2147483647; y0 = negsuc 2147483647; x1 = pos 2147483647; y1 = pos 2147483647 }

-- The pixels of the screen that a draw draws: all, or those of its scissor if that is looked at.
abbrev pub scissor_listed : BatchDraw → PixelBox
scissor_listed d =
    if d.scissor_enable == 0 then everywhere
    else record { x0 = d.scissor_left; y0 = d.scissor_top; x1 = d.scissor_right; y1 = d.scissor_bottom }

-- The state of a draw by the caller's numbers, on a canvas that has alpha or not. A sample is drawn if its bit is not set among those
-- that are skipped.
abbrev pub state_listed : Bool → BatchDraw → State
state_listed has_alpha d = record {
  merge = record {
    test = depth_test_listed d.depth_test;
    depth_write = d.depth_write == 1;
    write = is_written d.keep 1 ∷ is_written d.keep 2 ∷ is_written d.keep 4 ∷ [];
    blend = blend_numbered d.blend (if has_alpha then is_written d.keep 8 else false);
  };
  cull = cull_listed d.cull;
  sample_mask = 65535 - d.skip_samples;
  scissor = scissor_listed d;
}

-- How many indices each primitive of a topology takes: 0 is triangles, 1 a strip, 2 quads.
abbrev pub corners_of : ℕ → ℕ
corners_of topology = if topology == 0 then 3 else (if topology == 1 then 1 else 4)

-- The quads of indices, four each.
abbrev pub quads_of : List ℕ → List (List ℕ)
quads_of indices = first_chunks 4 (length indices / 4) indices

-- The primitives of a topology with these indices, one primitive's after another's.
abbrev pub primitives_listed : ℕ → List ℕ → PrimitiveListing
primitives_listed topology indices =
    if topology == 0 then triangle_list (first_chunks 3 (length indices / 3) indices)
    else (if topology == 1 then triangle_strip indices
    else quad_list (quads_of indices))

-- ---- draws

-- A draw on a canvas that has alpha or not, whose vertices and indices are the first of these.
abbrev pub draw_listed : Bool → BatchDraw → List BatchVertex → Option (List ℕ) → DrawListing
draw_listed has_alpha d vertices indices = record {
  state = state_listed has_alpha d;
  vertices = map vertex_listed (take d.vertices vertices);
  primitives = primitives_listed d.topology (own_indices d indices);
}

-- Draws in their order: the vertices and indices of each follow those of the draw before it.
abbrev pub draws_listed : Bool → List BatchDraw → List BatchVertex → Option (List ℕ) → List DrawListing
draws_listed has_alpha [] vertices indices = []
draws_listed has_alpha (d ∷ ds) vertices indices = draw_listed has_alpha d vertices indices ∷ draws_listed has_alpha ds (drop d.vertices vertices) (indices_behind d.indices indices)

-- One draw of these vertices and indices, whose other numbers are zero.
abbrev pub whole_draw : ℕ → ℕ → BatchDraw
whole_draw vertices indices = record {
  vertices = vertices;
  indices = indices;
  topology = 0;
  cull = 0;
  depth_test = 0;
  depth_write = 0;
  keep = 0;
  scissor_enable = 0;
  skip_samples = 0;
  scissor_left = pos 0;
  scissor_top = pos 0;
  scissor_right = pos 0;
  scissor_bottom = pos 0;
  blend = record {
    color_source = 0;
    color_stored = 0;
    color_operation = 0;
    alpha_source = 0;
    alpha_stored = 0;
    alpha_operation = 0;
    constant = 0 ∷ 0 ∷ 0 ∷ 0 ∷ [];
  };
}

-- The draws of a batch: those of the caller, or else one of all vertices and indices.
abbrev pub draws_of : List BatchDraw → List BatchVertex → Option (List ℕ) → List BatchDraw
draws_of [] vertices indices = whole_draw (length vertices) (count_of_indices indices) ∷ []
draws_of (d ∷ ds) vertices indices = d ∷ ds
