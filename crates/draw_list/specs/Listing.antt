-- What a draw list holds, wherever it lies in memory.
use Rattle.std.specs.Prelude.{ℕ, ◌≤◌, List, [], ◌∷◌, map, length, sum_by, slice_index, slice_index_or, pos}
use Rattle.std.specs.List.{All, flat_map}
use Rattle.grid.specs.declared.sample_count.SampleCount.{SampleCount}
use Rattle.shade.specs.declared.sample.Sample.{Sample}
use Rattle.draw_list.specs.declared.draw.Vertex.{Vertex}
use Rattle.shade.specs.declared.state.State.{State}
use Rattle.draw_list.specs.declared.draw.Draw.{Draw}
use Rattle.draw_list.specs.declared.output.Output.{Output}
use Rattle.draw_list.specs.declared.target.Target.{Target}
use Rattle.shade.specs.declared.placed.Placed.{Placed}
use Rattle.draw_list.specs.Primitives.{PrimitiveListing, triangles_of, count_of_triangles, AreOver, primitive_listing}
use Rattle.draw_list.specs.Scene.{Scene}

-- A draw, wherever it lies in memory: its state, its vertices and its primitives.
pub record DrawListing : Type 0 where
  pub state : State
  pub vertices : List Vertex
  pub primitives : PrimitiveListing

-- A draw list, wherever it lies in memory. It has the picture's size in pixels, the samples of a pixel, what each sample begins
-- with, what the picture shows, and the draws.
pub record Listing : Type 0 where
  pub width : ℕ
  pub height : ℕ
  pub count : SampleCount
  pub clear : Sample
  pub output : Output
  pub draws : List DrawListing

-- The vertex of this index; the origin past the end, which no triangle of a draw list names.
abbrev pub vertex_of : DrawListing → ℕ → Vertex
vertex_of d k = slice_index_or d.vertices k (record { at = record { x = pos 0; y = pos 0 }; z = 0; rgba = 0 ∷ 0 ∷ 0 ∷ 0 ∷ [] })

-- The triangle of three vertices in this state.
abbrev pub triangle_of : State → Vertex → Vertex → Vertex → Placed
triangle_of state a b c = record {
  tri = record { a = a.at; b = b.at; c = c.at };
  z = a.z ∷ b.z ∷ c.z ∷ [];
  rgba = a.rgba ∷ b.rgba ∷ c.rgba ∷ [];
  state = state;
}

-- A triangle of a draw, with the vertices that its indices name and the draw's state.
abbrev pub placed : DrawListing → List ℕ → Placed
placed d indices =
    triangle_of d.state (vertex_of d (slice_index indices 0)) (vertex_of d (slice_index indices 1)) (vertex_of d (slice_index indices 2))

-- The triangles of a draw, in the order of its primitives.
abbrev pub placed_all : DrawListing → List Placed
placed_all d = map (placed d) (triangles_of d.primitives)

-- The scene of a draw list. Its triangles stand in draw order: draw by draw, and in a draw as its primitives are listed.
abbrev pub scene_of : Listing → Scene
scene_of l = record {
  width = l.width;
  height = l.height;
  count = l.count;
  clear = l.clear;
  output = l.output;
  triangles = flat_map placed_all l.draws;
  draws = map (λ d. count_of_triangles d.primitives) l.draws;
}

-- A draw has at most 65536 vertices, and primitives over these alone (this project's limits).
pub record IsDrawWithinLimits (d : DrawListing) : Type 0 where
  pub vertices : length d.vertices ≤ 65536
  pub primitives : AreOver d.vertices d.primitives

-- There are at most 1024 draws, each within its limits, and 65536 triangles (this project's limits). The triangles are those of all
-- draws together, so no draw has more.
pub record AreWithinLimits (draws : List DrawListing) : Type 0 where
  pub number : length draws ≤ 1024
  pub each : All IsDrawWithinLimits draws
  pub triangles : sum_by (λ d. count_of_triangles d.primitives) draws ≤ 65536

-- A picture is at most 4096 by 4096 pixels and not empty, and the draws are within their limits (this project's).
pub record IsListingWithinLimits (l : Listing) : Type 0 where
  pub wide : 1 ≤ l.width
  pub width : l.width ≤ 4096
  pub high : 1 ≤ l.height
  pub height : l.height ≤ 4096
  pub draws : AreWithinLimits l.draws

-- The listing of a draw in memory.
abbrev pub draw_listing : Draw → DrawListing
draw_listing d = record { state = d.state; vertices = d.vertices.items; primitives = primitive_listing d.primitives }

-- The listing of draws in memory, with the picture's size, samples, clear values and output.
abbrev pub listing_of : ℕ → ℕ → SampleCount → Sample → Output → List Draw → Listing
listing_of width height count clear output draws = record { width = width; height = height; count = count; clear = clear; output = output; draws = map draw_listing draws }

-- The listing of draws in memory on a target, which has the picture's size, samples, clear values and output.
abbrev pub listing_on : Target → List Draw → Listing
listing_on target draws = listing_of target.width target.height target.count target.clear target.output draws
