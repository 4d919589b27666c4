-- The checks of a draw list, in their order.
use Rattle.std.specs.Prelude.{◌≡◌, ℕ, ◌+◌, ◌||◌, ◌&&◌, ◌==◌, ℤ, pos, negsuc, int_le, ◌-ℤ◌, List, [], ◌∷◌, ◌++◌, Bool, true, false, not, nat_lt, IfSome, Option, Some, None, is_some, is_none, unwrap_or, unsigned_abs, int_lt, slice_index_or, length, map, codes}
use Rattle.std.specs.List.{AllByRecursion}
use Rattle.std.specs.Option.{option_map_or}
use Rattle.std.specs.Ordering.{int_eq}
use Rattle.serde_json.specs.Data.{Data, Items, no_items, item}
use Rattle.serde_json.specs.Find.{get, get_item, at, as_object}
use Rattle.draw_list.specs.declared.draw.Vertex.{Vertex}
use Rattle.draw_list.specs.declared.fault.ReadKind.{ReadKind}
use Rattle.draw_list.specs.declared.fault.ReadKind.TheVariants.{NotJson, UnknownKey, MissingKey, WrongKind, OutOfRange, BadIndex, TooMany, OutOfMemory, TwoLists, NotConvex}
use Rattle.draw_list.specs.declared.fault.ReadFault.{ReadFault}
use Rattle.draw_list.specs.Fault.{outside, fault_in_draw}
use Rattle.list_json.specs.Json.{whole, text, truth, array_of, element, elements, count, length_of, is_among, has_other_key}
use Rattle.grid.specs.Position.{Position}
use Rattle.grid.specs.Edge.{side}
use Rattle.draw_list.specs.Primitives.{strip_count, quads_count}
use Rattle.list_json.specs.Keys.{top_keys, draw_keys, output_words, cull_words, depth_test_words, blend_words}
use Rattle.checks.specs.FirstFault.{Check, AllPass, check, reported_as}

-- Checks of a draw list, each with the kind of error that it reports.
abbrev pub KindChecks : Type 0
KindChecks = List (Check ReadKind)

-- ---- numbers, words and booleans

-- Whether z lies from low to high, both included.
abbrev pub is_from_to : ℤ → ℤ → ℤ → Bool
is_from_to low high z = int_le low z && int_le z high

-- The value is an integer, else `WrongKind` is reported, and it is in its range, else `outside` is.
abbrev pub number_checks : (ℤ → Bool) → ReadKind → Option Data → KindChecks
number_checks is_inside outside value =
    check (is_none (whole value)) WrongKind
    ∷ check (option_map_or (λ z. not (is_inside z)) (whole value) false) outside
    ∷ []

-- A coordinate of the guard band in 1/256 pixel, else `OutOfRange` is reported.
abbrev pub coordinate_checks : Option Data → KindChecks
coordinate_checks value = number_checks (is_from_to (negsuc 8388607) (pos 8388607)) OutOfRange value

-- A depth from 0 to 65535, else `OutOfRange` is reported.
abbrev pub depth_checks : Option Data → KindChecks
depth_checks value = number_checks (is_from_to (pos 0) (pos 65535)) OutOfRange value

-- A colour channel or an alpha from 0 to 255, else `OutOfRange` is reported.
abbrev pub channel_checks : Option Data → KindChecks
channel_checks value = number_checks (is_from_to (pos 0) (pos 255)) OutOfRange value

-- The width or height of a picture from 1 to 4096 pixels, else `OutOfRange` is reported.
abbrev pub size_checks : Option Data → KindChecks
size_checks value = number_checks (is_from_to (pos 1) (pos 4096)) OutOfRange value

-- Whether a pixel may have z samples: 1 or 4.
abbrev pub is_sample_count : ℤ → Bool
is_sample_count z = int_eq z (pos 1) || int_eq z (pos 4)

-- The samples of a pixel, 1 or 4, else `OutOfRange` is reported.
abbrev pub sample_count_checks : Option Data → KindChecks
sample_count_checks value = number_checks is_sample_count OutOfRange value

-- A sample mask from 0 to 15, else `OutOfRange` is reported. Bit s is that of sample s.
abbrev pub sample_mask_checks : Option Data → KindChecks
sample_mask_checks value = number_checks (is_from_to (pos 0) (pos 15)) OutOfRange value

-- A side of a scissor from 0 to 4096 pixels, else `OutOfRange` is reported.
abbrev pub scissor_side_checks : Option Data → KindChecks
scissor_side_checks value = number_checks (is_from_to (pos 0) (pos 4096)) OutOfRange value

-- The index of one of n vertices, else `BadIndex` is reported.
abbrev pub vertex_index_checks : ℕ → Option Data → KindChecks
vertex_index_checks n value = number_checks (is_from_to (pos 0) (pos n -ℤ pos 1)) BadIndex value

-- A string, else `WrongKind` is reported, and one of the words, else `OutOfRange` is.
abbrev pub word_checks : List (List ℕ) → Option Data → KindChecks
word_checks words value =
    check (is_none (text value)) WrongKind
    ∷ check (option_map_or (λ t. not (is_among words t)) (text value) false) OutOfRange
    ∷ []

-- A boolean, else `WrongKind` is reported.
abbrev pub truth_checks : Option Data → KindChecks
truth_checks value = check (is_none (truth value)) WrongKind ∷ []

-- The checks of a key that may be absent: none if it is.
abbrev pub where_there : (Option Data → KindChecks) → Option Data → KindChecks
where_there checks None = []
where_there checks (Some value) = checks (Some value)

-- Whether the value has no key of this name.
abbrev pub is_absent : List ℕ → Data → Bool
is_absent name value = is_none (get name value)

-- ---- arrays

-- Whether the value is an array of exactly n elements.
abbrev pub has_length : ℕ → Option Data → Bool
has_length n value = option_map_or (λ m. m == n) (length_of value) false

-- An array of exactly n elements, else `WrongKind` is reported.
abbrev pub length_check : ℕ → Option Data → Check ReadKind
length_check n value = check (not (has_length n value)) WrongKind

-- An array, and of at most `most` elements, else `TooMany` is reported.
abbrev pub array_checks : ℕ → Option Data → KindChecks
array_checks most value = check (is_none (array_of value)) WrongKind ∷ check (nat_lt most (count value)) TooMany ∷ []

-- The checks of each element in turn.
abbrev pub each : (Data → KindChecks) → Items → KindChecks
each checks no_items = []
each checks (item value rest) = checks value ++ each checks rest

-- The red, green, blue and alpha of a vertex, which are its elements 3 to 6.
abbrev pub rgba_checks : Data → KindChecks
rgba_checks value =
    channel_checks (at 3 value) ++ (channel_checks (at 4 value) ++ (channel_checks (at 5 value) ++ channel_checks (at 6 value)))

-- A vertex: [x, y, z, red, green, blue, alpha].
abbrev pub vertex_checks : Data → KindChecks
vertex_checks value =
    length_check 7 (Some value)
    ∷ (coordinate_checks (at 0 value) ++ (coordinate_checks (at 1 value) ++ (depth_checks (at 2 value) ++ rgba_checks value)))

-- A triangle: [a, b, c], the indices of three of n vertices.
abbrev pub triangle_checks : ℕ → Data → KindChecks
triangle_checks n value =
    length_check 3 (Some value) ∷ (vertex_index_checks n (at 0 value) ++ (vertex_index_checks n (at 1 value) ++ vertex_index_checks n (at 2 value)))

-- The position of a vertex as it is written, in 1/256 pixel. A coordinate that is no integer is taken for 0.
abbrev pub position_written : Data → Position
position_written value = record { x = unwrap_or (whole (at 0 value)) (pos 0); y = unwrap_or (whole (at 1 value)) (pos 0) }

-- The positions of vertices as they are written, in their order.
abbrev pub positions_written : Items → List Position
positions_written no_items = []
positions_written (item value rest) = position_written value ∷ positions_written rest

-- The position that an index names; the origin past the end.
abbrev pub corner_written : List Position → Option Data → Position
corner_written positions index = slice_index_or positions (unsigned_abs (unwrap_or (whole index) (pos 0))) (record { x = pos 0; y = pos 0 })

-- Whether all four turns of the quad abcd pass the test.
abbrev pub each_turn : (ℤ → Bool) → Position → Position → Position → Position → Bool
each_turn is_so a b c d = is_so (side a b c) && (is_so (side b c d) && (is_so (side c d a) && is_so (side d a b)))

-- Whether the quad abcd is strictly convex.
abbrev pub is_strictly_convex : Position → Position → Position → Position → Bool
is_strictly_convex a b c d = each_turn (λ turn. int_lt (pos 0) turn) a b c d || each_turn (λ turn. int_lt turn (pos 0)) a b c d

-- A quad: [a, b, c, d], the indices of four of n vertices, else `NotConvex` is reported if it is not strictly convex. The vertices
-- lie at these positions.
abbrev pub quad_checks_at : ℕ → List Position → Data → KindChecks
quad_checks_at n positions value =
    let corner : ℕ → Position = λ i. corner_written positions (at i value) in
    length_check 4 (Some value)
    ∷ (vertex_index_checks n (at 0 value) ++ (vertex_index_checks n (at 1 value) ++ (vertex_index_checks n (at 2 value) ++ (vertex_index_checks n (at 3 value)
    ++ check (not (is_strictly_convex (corner 0) (corner 1) (corner 2) (corner 3))) NotConvex ∷ []))))

-- A quad over vertices that were read.
abbrev pub quad_checks_over : List Vertex → Data → KindChecks
quad_checks_over vertices = quad_checks_at (length vertices) (map (λ v. v.at) vertices)

-- An index in a strip over n vertices.
abbrev pub strip_index_checks : ℕ → Data → KindChecks
strip_index_checks n value = vertex_index_checks n (Some value)

-- A clear colour: [red, green, blue], each from 0 to 255.
abbrev pub colour_checks : Option Data → KindChecks
colour_checks value =
    length_check 3 value ∷ (channel_checks (element 0 value) ++ (channel_checks (element 1 value) ++ channel_checks (element 2 value)))

-- A write mask: [red, green, blue], each a boolean.
abbrev pub write_mask_checks : Option Data → KindChecks
write_mask_checks value =
    length_check 3 value ∷ (truth_checks (element 0 value) ++ (truth_checks (element 1 value) ++ truth_checks (element 2 value)))

-- A scissor: [left, top, right, bottom], in pixels.
abbrev pub scissor_checks : Option Data → KindChecks
scissor_checks value =
    length_check 4 value
    ∷ (scissor_side_checks (element 0 value) ++ (scissor_side_checks (element 1 value)
    ++ (scissor_side_checks (element 2 value) ++ scissor_side_checks (element 3 value))))

-- ---- a draw

-- How a draw's fragments are merged: the depth test, depth writes, the blending and the write mask.
unfoldable pub merge_checks : Data → KindChecks
merge_checks value =
    where_there (word_checks depth_test_words) (get (codes "depth_test") value)
    ++ (where_there truth_checks (get (codes "depth_write") value)
    ++ (where_there (word_checks blend_words) (get (codes "blend") value)
    ++ where_there write_mask_checks (get (codes "write") value)))

-- The state of a draw: culling, how its fragments are merged, the sample mask and the scissor. Each key may be absent.
unfoldable pub state_value_checks : Data → KindChecks
state_value_checks value =
    where_there (word_checks cull_words) (get (codes "cull") value)
    ++ (merge_checks value
    ++ (where_there sample_mask_checks (get (codes "sample_mask") value)
    ++ where_there scissor_checks (get (codes "scissor") value)))

-- The vertices of a draw: an array of at most 65536, and each of them.
unfoldable pub vertices_checks : Option Data → KindChecks
vertices_checks value = array_checks 65536 value ++ each vertex_checks (elements value)

-- A draw's triangles and the `earlier` ones of the draws before are at most 65536, else `TooMany` is reported.
abbrev pub sum_check : ℕ → ℕ → Check ReadKind
sum_check earlier triangles = check (nat_lt 65536 (earlier + triangles)) TooMany

-- The triangle list of a draw of n vertices, before which the draws have `earlier` triangles.
unfoldable pub triangles_checks : ℕ → ℕ → Option Data → KindChecks
triangles_checks earlier n value = array_checks 65536 value ++ sum_check earlier (count value) ∷ each (triangle_checks n) (elements value)

-- The triangle strip of a draw of n vertices, before which the draws have `earlier` triangles.
unfoldable pub strip_checks : ℕ → ℕ → Option Data → KindChecks
strip_checks earlier n value = array_checks 65538 value ++ sum_check earlier (strip_count (count value)) ∷ each (strip_index_checks n) (elements value)

-- The quads of a draw of n vertices at these positions, before which the draws have `earlier` triangles.
unfoldable pub quads_checks : ℕ → ℕ → List Position → Option Data → KindChecks
quads_checks earlier n positions value =
    array_checks 32768 value ++ sum_check earlier (quads_count (count value)) ∷ each (quad_checks_at n positions) (elements value)

-- The primitives of a draw of n vertices at these positions: the one of the three lists that is there. The draws before have
-- `earlier` triangles.
abbrev pub primitive_checks : ℕ → ℕ → List Position → Option Data → Option Data → Option Data → KindChecks
primitive_checks earlier n positions triangles strip quads =
    where_there (triangles_checks earlier n) triangles
    ++ (where_there (strip_checks earlier n) strip ++ where_there (quads_checks earlier n positions) quads)

-- The vertices of a draw and its primitives over them, before which the draws have `earlier` triangles.
abbrev pub part_checks : ℕ → Option Data → Option Data → Option Data → Option Data → KindChecks
part_checks earlier vertices triangles strip quads =
    where_there vertices_checks vertices
    ++ primitive_checks earlier (count vertices) (positions_written (elements vertices)) triangles strip quads

-- How many triangles the values of `triangles`, `strip` and `quads` have, of which one is there.
abbrev pub triangles_given : Option Data → Option Data → Option Data → ℕ
triangles_given triangles strip quads = count triangles + strip_count (count strip) + quads_count (count quads)

-- How many triangles a draw has, by its values.
abbrev pub triangles_counted : Data → ℕ
triangles_counted value = triangles_given (get (codes "triangles") value) (get (codes "strip") value) (get (codes "quads") value)

-- Whether none of the three lists of primitives is there.
abbrev pub is_none_there : Option Data → Option Data → Option Data → Bool
is_none_there triangles strip quads = is_none triangles && (is_none strip && is_none quads)

-- Whether more than one of the three lists of primitives is there.
abbrev pub are_two_there : Option Data → Option Data → Option Data → Bool
are_two_there triangles strip quads =
    (is_some triangles && is_some strip) || ((is_some triangles && is_some quads) || (is_some strip && is_some quads))

-- Whether a draw has no list of primitives.
abbrev pub has_no_list : Data → Bool
has_no_list value = is_none_there (get (codes "triangles") value) (get (codes "strip") value) (get (codes "quads") value)

-- Whether a draw has more than one list of primitives.
abbrev pub has_two_lists : Data → Bool
has_two_lists value = are_two_there (get (codes "triangles") value) (get (codes "strip") value) (get (codes "quads") value)

-- The checks of a draw that come before its vertices and primitives: its keys, its lists and its state.
abbrev pub draw_opening_checks : Data → KindChecks
draw_opening_checks value =
    check (is_none (as_object value)) WrongKind
    ∷ check (has_other_key draw_keys (as_object value)) UnknownKey
    ∷ check (is_absent (codes "vertices") value || has_no_list value) MissingKey
    ∷ check (has_two_lists value) TwoLists
    ∷ state_value_checks value

-- The checks of a draw before which the draws have `earlier` triangles.
abbrev pub draw_value_checks : ℕ → Data → KindChecks
draw_value_checks earlier value =
    draw_opening_checks value
    ++ part_checks earlier (get (codes "vertices") value) (get (codes "triangles") value) (get (codes "strip") value) (get (codes "quads") value)

-- The checks of a draw that come before those of its single vertices.
abbrev pub checks_before_vertices : Data → KindChecks
checks_before_vertices value = draw_opening_checks value ++ array_checks 65536 (get (codes "vertices") value)

-- ---- the whole list

-- The keys of the top object that may be absent: samples, clear colour, clear depth and output.
unfoldable pub clear_checks : Data → KindChecks
clear_checks value =
    where_there sample_count_checks (get (codes "samples") value)
    ++ (where_there colour_checks (get (codes "clear") value)
    ++ (where_there depth_checks (get (codes "clear_depth") value)
    ++ where_there (word_checks output_words) (get (codes "output") value)))

-- The checks of the top object, without those of the draws themselves.
unfoldable pub top_checks : Data → KindChecks
top_checks value =
    check (is_none (as_object value)) WrongKind
    ∷ check (has_other_key top_keys (as_object value)) UnknownKey
    ∷ check (is_absent (codes "width") value || is_absent (codes "height") value || is_absent (codes "draws") value) MissingKey
    ∷ (size_checks (get (codes "width") value)
    ++ (size_checks (get (codes "height") value)
    ++ (clear_checks value
    ++ array_checks 1024 (get (codes "draws") value))))

-- The checks of the draws from this number on, before which the draws have `earlier` triangles.
abbrev pub numbered_draw_checks : ℕ → ℕ → Items → List (Check ReadFault)
numbered_draw_checks number earlier no_items = []
numbered_draw_checks number earlier (item value rest) =
    reported_as (fault_in_draw number) (draw_value_checks earlier value)
    ++ numbered_draw_checks (number + 1) (earlier + triangles_counted value) rest

-- All checks of a JSON value: those of the top object, and then those of the draws in their order.
abbrev pub value_checks : Data → List (Check ReadFault)
value_checks value = reported_as outside (top_checks value) ++ numbered_draw_checks 0 0 (elements (get (codes "draws") value))

-- All checks of an input, in their order: first whether its bytes are JSON.
abbrev pub all_checks : Option Data → List (Check ReadFault)
all_checks None = check true (outside NotJson) ∷ []
all_checks (Some value) = check false (outside NotJson) ∷ value_checks value

-- Whether an error is in no draw, or in a draw before draw n.
abbrev pub is_before : ℕ → ReadFault → Bool
is_before n fault = option_map_or (λ m. nat_lt m n) fault.draw true

-- No check fails that reports an error in no draw or in a draw before draw n.
abbrev pub PassesBefore : ℕ → List (Check ReadFault) → Type 0
PassesBefore n checks = AllByRecursion (λ p. is_before n p.reported ≡ true → p.fails ≡ false) checks

-- Draw n is one of these, and no check of a draw before it fails. If the kind is out of memory, no check of draw n fails either
-- that comes before its single vertices.
pub record IsDrawReached (draws : Items) (kind : ReadKind) (n : ℕ) : Type 0 where
  pub draw : Data
  pub there : get_item n draws ≡ Some draw
  pub before : PassesBefore n (numbered_draw_checks 0 0 draws)
  pub memory : kind ≡ OutOfMemory → AllPass (checks_before_vertices draw)

-- The draw that an error names was reached, and no check of the top object fails.
abbrev pub Reaches : Option Data → ReadFault → Type 0
Reaches None fault = fault.draw ≡ None
Reaches (Some value) fault = IfSome fault.draw (λ n. AllPass (top_checks value) × IsDrawReached (elements (get (codes "draws") value)) fault.kind n)
