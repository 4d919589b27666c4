-- Which draw list a JSON value denotes: this project's format.
use Rattle.std.specs.Prelude.{◌≡◌, ◌⊎◌, ℕ, ◌<◌, ◌≤◌, ℤ, pos, ◌≤ℤ◌, List, [], ◌∷◌, length, slice_index, slice_index_or, Bool, true, false, codes, sum_by, IsSome, Option, Some, None}
use Rattle.serde_json.specs.Data.{Data, Items, no_items, item}
use Rattle.serde_json.specs.Find.{get, at, as_object}
use Rattle.grid.specs.Position.{IsInBand}
use Rattle.grid.specs.Samples.{count_of}
use Rattle.grid.specs.declared.cull.Cull.{Cull}
use Rattle.grid.specs.declared.cull.Cull.TheVariants as cull
use Rattle.grid.specs.declared.pixels.PixelBox.{PixelBox}
use Rattle.grid.specs.declared.sample_count.SampleCount.{SampleCount}
use Rattle.grid.specs.declared.sample_count.SampleCount.TheVariants as samples
use Rattle.shade.specs.declared.depth.DepthTest.{DepthTest}
use Rattle.shade.specs.declared.depth.DepthTest.TheVariants as test
use Rattle.shade.specs.declared.blend.Blend.{Blend}
use Rattle.shade.specs.Presets.{none_blend}
use Rattle.shade.specs.declared.sample.Merge.{Merge}
use Rattle.shade.specs.declared.state.State.{State}
use Rattle.draw_list.specs.declared.draw.Vertex.{Vertex}
use Rattle.draw_list.specs.declared.output.Output.{Output}
use Rattle.draw_list.specs.declared.output.Output.TheVariants as output
use Rattle.list_json.specs.Json.{json_of, whole, text, truth, array_of, element, elements, length_of, has_other_key}
use Rattle.list_json.specs.Keys.{top_keys, draw_keys, output_word, cull_word, depth_test_word, NamesBlend}
use Rattle.draw_list.specs.Primitives.{PrimitiveListing, triangle_list, triangle_strip, quad_list, count_of_triangles, IsConvexOver}
use Rattle.draw_list.specs.Listing.{DrawListing, Listing, scene_of}
use Rattle.draw_list.specs.Picture.{picture_box}
use Rattle.draw_list.specs.Scene.{Scene}

-- ---- numbers, words and booleans

-- The value is this integer, which lies from low to high.
abbrev pub IsIntegerWithin : ℤ → ℤ → Option Data → ℤ → Type 0
IsIntegerWithin low high value z = (whole value ≡ Some z) × (low ≤ℤ z) × (z ≤ℤ high)

-- The value is a coordinate of the guard band, in 1/256 pixel.
abbrev pub IsCoordinate : Option Data → ℤ → Type 0
IsCoordinate value z = (whole value ≡ Some z) × IsInBand z

-- The value is a depth, from 0 to 65535.
abbrev pub IsDepthNumber : Option Data → ℕ → Type 0
IsDepthNumber value n = IsIntegerWithin (pos 0) (pos 65535) value (pos n)

-- The value is a colour channel or an alpha, from 0 to 255.
abbrev pub IsChannel : Option Data → ℕ → Type 0
IsChannel value n = IsIntegerWithin (pos 0) (pos 255) value (pos n)

-- The value is the index of one of n vertices.
abbrev pub IsIndex : ℕ → Option Data → ℕ → Type 0
IsIndex n value k = (whole value ≡ Some (pos k)) × (k < n)

-- The value is a picture's width or height, from 1 to 4096 pixels.
abbrev pub IsSize : Option Data → ℕ → Type 0
IsSize value n = IsIntegerWithin (pos 1) (pos 4096) value (pos n)

-- The value is this boolean.
abbrev pub IsTruth : Option Data → Bool → Type 0
IsTruth value b = truth value ≡ Some b

-- What the value of a key denotes, and the default if the key is absent.
abbrev pub OrDefault : {X : Type 0} → X → (Option Data → X → Type 0) → Option Data → X → Type 0
OrDefault default Is None x = x ≡ default
OrDefault default Is (Some value) x = Is (Some value) x

-- ---- arrays

-- Each element is what the value at its index denotes, and there are as many elements as values.
abbrev pub Each : {X : Type 0} → (Data → X → Type 0) → Items → List X → Type 0
Each Is no_items [] = Unit {0}
Each Is no_items (x ∷ xs) = ⊥
Each Is (item value rest) [] = ⊥
Each Is (item value rest) (x ∷ xs) = Is value x × Each Is rest xs

-- The value is an array of at most `most` elements, each of which denotes its part.
pub record IsArrayOf {X : Type 0} (most : ℕ) (Is : Data → X → Type 0) (value : Option Data) (found : List X) : Type 0 where
  pub array : IsSome (array_of value)
  pub parts : Each Is (elements value) found
  pub at_most : length found ≤ most

-- The value is this vertex: [x, y, z, red, green, blue, alpha], with x and y in 1/256 pixel.
pub record IsVertex (value : Data) (v : Vertex) : Type 0 where
  pub array : length_of (Some value) ≡ Some 7
  pub x : IsCoordinate (at 0 value) v.at.x
  pub y : IsCoordinate (at 1 value) v.at.y
  pub z : IsDepthNumber (at 2 value) v.z
  pub channels : length v.rgba ≡ 4
  pub red : IsChannel (at 3 value) (slice_index v.rgba 0)
  pub green : IsChannel (at 4 value) (slice_index v.rgba 1)
  pub blue : IsChannel (at 5 value) (slice_index v.rgba 2)
  pub alpha : IsChannel (at 6 value) (slice_index v.rgba 3)

-- The value is this triangle: [a, b, c], the indices of three of n vertices.
pub record IsTriangle (n : ℕ) (value : Data) (triangle : List ℕ) : Type 0 where
  pub array : length_of (Some value) ≡ Some 3
  pub indices : length triangle ≡ 3
  pub first : IsIndex n (at 0 value) (slice_index triangle 0)
  pub second : IsIndex n (at 1 value) (slice_index triangle 1)
  pub third : IsIndex n (at 2 value) (slice_index triangle 2)

-- The value is the index of one of n vertices in a strip.
abbrev pub IsStripIndex : ℕ → Data → ℕ → Type 0
IsStripIndex n value k = IsIndex n (Some value) k

-- The value is this quad: [a, b, c, d], the indices of four of the vertices, which are the corners of a strictly convex quad.
pub record IsQuad (vertices : List Vertex) (value : Data) (quad : List ℕ) : Type 0 where
  pub array : length_of (Some value) ≡ Some 4
  pub indices : length quad ≡ 4
  pub first : IsIndex (length vertices) (at 0 value) (slice_index quad 0)
  pub second : IsIndex (length vertices) (at 1 value) (slice_index quad 1)
  pub third : IsIndex (length vertices) (at 2 value) (slice_index quad 2)
  pub fourth : IsIndex (length vertices) (at 3 value) (slice_index quad 3)
  pub convex : IsConvexOver vertices quad

-- The values of a draw's keys `triangles`, `strip` and `quads` are these primitives, and one of the three is there. They are a
-- triangle list, a triangle strip or a list of quads, over the draw's vertices.
abbrev pub IsPrimitives : List Vertex → Option Data → Option Data → Option Data → PrimitiveListing → Type 0
IsPrimitives vertices triangles strip quads (triangle_list found) =
    IsArrayOf 65536 (IsTriangle (length vertices)) triangles found × (strip ≡ None) × (quads ≡ None)
IsPrimitives vertices triangles strip quads (triangle_strip found) =
    IsArrayOf 65538 (IsStripIndex (length vertices)) strip found × (triangles ≡ None) × (quads ≡ None)
IsPrimitives vertices triangles strip quads (quad_list found) =
    IsArrayOf 32768 (IsQuad vertices) quads found × (triangles ≡ None) × (strip ≡ None)

-- ---- the state of a draw

-- The value is the word for this culling.
abbrev pub IsCull : Option Data → Cull → Type 0
IsCull value mode = text value ≡ Some (cull_word mode)

-- The value is the word for this depth test.
abbrev pub IsDepthTest : Option Data → DepthTest → Type 0
IsDepthTest value t = text value ≡ Some (depth_test_word t)

-- The value is the word for this blending.
abbrev pub IsBlend : Option Data → Blend → Type 0
IsBlend value blend = (word : List ℕ) × (text value ≡ Some word) × NamesBlend word blend

-- The value is this write mask: [red, green, blue], each a boolean that says whether the channel is written.
pub record IsWriteMask (value : Option Data) (write : List Bool) : Type 0 where
  pub array : length_of value ≡ Some 3
  pub channels : length write ≡ 3
  pub red : IsTruth (element 0 value) (slice_index_or write 0 false)
  pub green : IsTruth (element 1 value) (slice_index_or write 1 false)
  pub blue : IsTruth (element 2 value) (slice_index_or write 2 false)

-- The value is this sample mask, a number of four bits: bit s is that of sample s.
abbrev pub IsSampleMaskNumber : Option Data → ℕ → Type 0
IsSampleMaskNumber value n = IsIntegerWithin (pos 0) (pos 15) value (pos n)

-- The value is a side of a scissor, in pixels. It may lie past the picture.
abbrev pub IsScissorSide : Option Data → ℤ → Type 0
IsScissorSide value z = IsIntegerWithin (pos 0) (pos 4096) value z

-- The value is this scissor: [left, top, right, bottom], in pixels.
pub record IsScissor (value : Option Data) (scissor : PixelBox) : Type 0 where
  pub array : length_of value ≡ Some 4
  pub left : IsScissorSide (element 0 value) scissor.x0
  pub top : IsScissorSide (element 1 value) scissor.y0
  pub right : IsScissorSide (element 2 value) scissor.x1
  pub bottom : IsScissorSide (element 3 value) scissor.y1

-- The value says how its fragments are merged with what is stored.
pub record IsMerge (value : Data) (merge : Merge) : Type 0 where
  pub depth_test : OrDefault test.Always IsDepthTest (get (codes "depth_test") value) merge.test
  pub depth_write : OrDefault false IsTruth (get (codes "depth_write") value) merge.depth_write
  pub blend : OrDefault none_blend IsBlend (get (codes "blend") value) merge.blend
  pub write : OrDefault (true ∷ true ∷ true ∷ []) IsWriteMask (get (codes "write") value) merge.write

-- The state of the draw that the value is, on a picture of these pixels.
pub record IsState (picture : PixelBox) (value : Data) (state : State) : Type 0 where
  pub cull : OrDefault cull.None IsCull (get (codes "cull") value) state.cull
  pub merge : IsMerge value state.merge
  pub sample_mask : OrDefault 15 IsSampleMaskNumber (get (codes "sample_mask") value) state.sample_mask
  pub scissor : OrDefault picture IsScissor (get (codes "scissor") value) state.scissor

-- ---- the list

-- The value is this draw, on a picture of these pixels.
pub record IsDraw (picture : PixelBox) (value : Data) (draw : DrawListing) : Type 0 where
  pub object : IsSome (as_object value)
  pub keys : has_other_key draw_keys (as_object value) ≡ false
  pub state : IsState picture value draw.state
  pub vertices : IsArrayOf 65536 IsVertex (get (codes "vertices") value) draw.vertices
  pub primitives : IsPrimitives draw.vertices (get (codes "triangles") value) (get (codes "strip") value) (get (codes "quads") value) draw.primitives

-- The value is the word for what the picture shows.
abbrev pub IsOutput : Option Data → Output → Type 0
IsOutput value output = text value ≡ Some (output_word output)

-- The value is this number of samples of a pixel: 1 or 4.
abbrev pub IsSampleCount : Option Data → SampleCount → Type 0
IsSampleCount value n = (whole value ≡ Some (pos (count_of n))) × ((n ≡ samples.One) ⊎ (n ≡ samples.Four))

-- The value is this clear colour: [red, green, blue], each from 0 to 255.
pub record IsClearColour (value : Option Data) (colour : List ℕ) : Type 0 where
  pub array : length_of value ≡ Some 3
  pub red : IsChannel (element 0 value) (slice_index colour 0)
  pub green : IsChannel (element 1 value) (slice_index colour 1)
  pub blue : IsChannel (element 2 value) (slice_index colour 2)

-- The value is this draw list, draw by draw.
pub record IsListing (value : Data) (l : Listing) : Type 0 where
  pub object : IsSome (as_object value)
  pub keys : has_other_key top_keys (as_object value) ≡ false
  pub width : IsSize (get (codes "width") value) l.width
  pub height : IsSize (get (codes "height") value) l.height
  pub samples : OrDefault samples.One IsSampleCount (get (codes "samples") value) l.count
  pub clear : OrDefault (0 ∷ 0 ∷ 0 ∷ []) IsClearColour (get (codes "clear") value) (l.clear.r ∷ l.clear.g ∷ l.clear.b ∷ [])
  pub clear_depth : OrDefault 65535 IsDepthNumber (get (codes "clear_depth") value) l.clear.z
  pub output : OrDefault output.Color IsOutput (get (codes "output") value) l.output
  pub draws : IsArrayOf 1024 (IsDraw (picture_box l.width l.height)) (get (codes "draws") value) l.draws
  pub triangles : sum_by (λ d. count_of_triangles d.primitives) l.draws ≤ 65536

-- The value is the draw list of this scene. The scene's triangles stand in draw order, each with the vertices that its indices name
-- and the state of its draw.
pub record IsDrawList (value : Data) (list : Scene) : Type 0 where
  pub listing : Listing
  pub is : IsListing value listing
  pub scene : list ≡ scene_of listing

-- The bytes are at most 64 MiB, and serde_json reads them as a value that denotes this draw list.
pub record Denotes (bytes : List ℕ) (list : Scene) : Type 0 where
  pub size : length bytes ≤ 67108864
  pub value : Data
  pub json : json_of bytes ≡ Some value
  pub is : IsDrawList value list
