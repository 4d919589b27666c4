-- Polygons in arrays, as they are drawn.
use Rattle.std.specs.Prelude.{ℕ, ◌+◌, ◌-◌, ◌≤◌, List, [], map, length, slice_index, slice_index_or, Option, None, Some}
use Rattle.std.specs.List.{range_with_len}
use Rattle.shade.specs.declared.state.State.{State}
use Rattle.polygons.specs.declared.arrays.Polygons.{Polygons}
use Rattle.polygons.specs.declared.corner.Corner.{Corner}
use Rattle.polygons.specs.declared.rule.Rule.{Rule}
use Rattle.polygons.specs.Arrays.{rings_of, BoxesFit, IsPolygonInBand}
use Rattle.canvas.specs.Ids.{colour_of_id, replacing}
use Rattle.fills.specs.declared.batch.Style.{Style}
use Rattle.fills.specs.Painting.{Shape}

-- If there are boxes, they are those of the polygons.
abbrev pub AreFit : Polygons → Type 0
AreFit polygons = BoxesFit polygons.boxes.now polygons.corners.now polygons.ring_ends.now polygons.polygon_ends.now

-- The corners of polygon k are inside of the guard band.
abbrev pub HasCornersInBand : Polygons → ℕ → Type 0
HasCornersInBand polygons k = IsPolygonInBand polygons.corners.now polygons.ring_ends.now polygons.polygon_ends.now k

-- The colour of polygon k: one of these, or that of its id, which is counted from the first one on.
abbrev pub polygon_colour : Option ℕ → List (List ℕ) → ℕ → List ℕ
polygon_colour None colours k = slice_index_or colours k []
polygon_colour (Some first) colours k = colour_of_id (first + k)

-- The state: where ids are drawn, they replace what is stored.
abbrev pub state_of : Option ℕ → State → State
state_of None state = state
state_of (Some first) state = replacing state

-- Polygon k of these arrays as it is drawn. Its depth is 0 if there are no depths.
abbrev pub shape_by : List Corner → List ℕ → List ℕ → Rule → List (List ℕ) → List ℕ → Option ℕ → State → ℕ → Shape
shape_by corners ring_ends polygon_ends rule colours depths ids state k = record {
  rings = rings_of corners ring_ends polygon_ends k;
  rule = rule;
  rgba = polygon_colour ids colours k;
  z = slice_index depths k;
  state = state_of ids state;
}

-- Polygon k as it is drawn.
abbrev pub shape_in : Polygons → Style → ℕ → Shape
shape_in polygons style =
    shape_by polygons.corners.now polygons.ring_ends.now polygons.polygon_ends.now style.rule style.colours.now style.depths.now style.ids style.state

-- The polygons as they are drawn, in their order.
abbrev pub shapes_of : Polygons → Style → List Shape
shapes_of polygons style = map (shape_in polygons style) (range_with_len 0 (length polygons.polygon_ends.now))

-- The polygons from k to before `end` as they are drawn, in their order.
abbrev pub shapes_between : Polygons → Style → ℕ → ℕ → List Shape
shapes_between polygons style k end = map (shape_in polygons style) (range_with_len k (end - k))

-- There is a colour for each of n polygons, or an id of 24 bits.
abbrev pub HasColours : Option ℕ → List (List ℕ) → ℕ → Type 0
HasColours None colours n = n ≤ length colours
HasColours (Some first) colours n = first + n ≤ 16777216
