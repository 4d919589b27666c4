-- What denotes a draw list passes each check.
use Rattle.std.proofs.Common.{◌≡◌, inl, inr, ℕ, ◌+◌, ◌≤◌, ℤ, pos, negsuc, ◌≤ℤ◌, ◌<◌, ◌-ℤ◌, List, [], ◌∷◌, ◌++◌, length, map, sum_by, Bool, true, false, Option, Some, None, IsSome, is_some, is_none, nat_lt, codes, arith, rules, refl, ap, ◌∙◌}
use Rattle.std.proofs.lemmas.Int.{ints}
use Rattle.std.proofs.lemmas.List.Sums.{sum_by-append}
use Rattle.std.proofs.lemmas.Bool.Decides.{nat_tests}
use Rattle.std.specs.Option.{option_map}
use Rattle.serde_json.specs.Data.{Data, Items, no_items, item}
use Rattle.serde_json.specs.Find.{get, at, as_object}
use Rattle.grid.specs.Position.{Position, IsInBand}
use Rattle.grid.specs.declared.cull.Cull.{Cull}
use Rattle.grid.specs.declared.cull.Cull.TheVariants as cull
use Rattle.grid.specs.declared.pixels.PixelBox.{PixelBox}
use Rattle.grid.specs.declared.sample_count.SampleCount.{SampleCount}
use Rattle.shade.specs.declared.depth.DepthTest.{DepthTest}
use Rattle.shade.specs.declared.depth.DepthTest.TheVariants as test
use Rattle.shade.specs.declared.blend.Blend.{Blend}
use Rattle.shade.specs.declared.sample.Merge.{Merge}
use Rattle.shade.specs.declared.state.State.{State}
use Rattle.draw_list.specs.declared.draw.Vertex.{Vertex}
use Rattle.draw_list.specs.declared.fault.ReadKind.{ReadKind}
use Rattle.list_json.specs.Json.{whole, text, array_of, count, elements}
use Rattle.draw_list.specs.declared.output.Output.{Output}
use Rattle.draw_list.specs.declared.output.Output.TheVariants as output
use Rattle.list_json.specs.Keys.{output_words, cull_words, depth_test_words, NamesBlend, blend_words}
use Rattle.draw_list.specs.Primitives.{PrimitiveListing, triangle_list, triangle_strip, quad_list, strip_count, quads_count, count_of_triangles}
use Rattle.draw_list.specs.Listing.{DrawListing, Listing}
use Rattle.checks.specs.FirstFault.{Check, first_fault, reported_as}
use Rattle.list_json.specs.Checks.{KindChecks, each, is_from_to, number_checks, depth_checks, vertex_checks, triangle_checks, strip_index_checks, quad_checks_at, corner_written, positions_written, is_strictly_convex, is_none_there, are_two_there, array_checks, sum_check, where_there, word_checks, truth_checks, colour_checks, write_mask_checks, sample_mask_checks, scissor_checks, sample_count_checks, merge_checks, state_value_checks, vertices_checks, triangles_checks, strip_checks, quads_checks, primitive_checks, part_checks, triangles_counted, draw_value_checks, clear_checks, top_checks, numbered_draw_checks, value_checks}
use Rattle.draw_list.specs.Fault.{outside}
use Rattle.draw_list.specs.Fault.{fault_in_draw}
use Rattle.list_json.specs.Denotes.{Each, OrDefault, IsIntegerWithin, IsDepthNumber, IsTruth, IsVertex, IsTriangle, IsStripIndex, IsQuad, IsPrimitives, IsArrayOf, IsCull, IsDepthTest, IsBlend, IsWriteMask, IsSampleMaskNumber, IsScissor, IsMerge, IsState, IsDraw, IsSampleCount, IsClearColour, IsOutput, IsListing}
use Rattle.list_json.proofs.Convex.{convex_is_true}
use Rattle.list_json.proofs.Corners.{same_places, same_corner}
use Rattle.list_json.proofs.Counts.{items_len_each, given_is}
use Rattle.checks.proofs.Faults.{first_fault_reported_as, both_pass}

reported_pass : {T U : Type 0} (f : T → U) (ps : List (Check T)) → first_fault ps ≡ None → first_fault (reported_as f ps) ≡ None
reported_pass f ps p = first_fault_reported_as f ps ∙ ap (option_map f) p

there : {A : Type 0} (o : Option A) → IsSome o → is_none o ≡ false
there None h = absurd (cc)
there (Some a) h = refl

-- what the value of a key denotes passes its checks, and so does an absent key
key_passes : {X : Type 0} (default : X) (Is : Option Data → X → Type 0) (checks : Option Data → KindChecks)
    → ((v : Data) (x : X) → Is (Some v) x → first_fault (checks (Some v)) ≡ None)
    → (value : Option Data) (x : X) → OrDefault default Is value x → first_fault (where_there checks value) ≡ None
key_passes default Is checks passes None x is = refl
key_passes default Is checks passes (Some v) x is = passes v x is

-- ---- numbers, words and booleans

in_range : (low high z : ℤ) → low ≤ℤ z → z ≤ℤ high → is_from_to low high z ≡ true
in_range low high z above below = search (rules, above, below)

index_in_range : (n k : ℕ) → k < n → is_from_to (pos 0) (pos n -ℤ pos 1) (pos k) ≡ true
index_in_range n k lt = in_range (pos 0) (pos n -ℤ pos 1) (pos k) (omega (arith, ints)) (omega (arith, ints))

band_in_range : (z : ℤ) → IsInBand z → is_from_to (negsuc 8388607) (pos 8388607) z ≡ true
band_in_range z is = in_range (negsuc 8388607) (pos 8388607) z is.low is.high

number_passes : (low high : ℤ) (kind : ReadKind) (value : Option Data) (z : ℤ) → IsIntegerWithin low high value z → first_fault (number_checks (is_from_to low high) kind value) ≡ None
number_passes low high kind value z is = rw (is.0, in_range low high z is.1 is.2) refl

depth_passes : (v : Data) (n : ℕ) → IsDepthNumber (Some v) n → first_fault (depth_checks (Some v)) ≡ None
depth_passes v n is = number_passes _ _ _ (Some v) (pos n) is

sample_mask_passes : (v : Data) (n : ℕ) → IsSampleMaskNumber (Some v) n → first_fault (sample_mask_checks (Some v)) ≡ None
sample_mask_passes v n is = number_passes _ _ _ (Some v) (pos n) is

sample_count_passes : (v : Data) (n : SampleCount) → IsSampleCount (Some v) n → first_fault (sample_count_checks (Some v)) ≡ None
sample_count_passes v n (found, inl one) = rw (found, one) refl
sample_count_passes v n (found, inr four) = rw (found, four) refl

truth_passes : (v : Data) (b : Bool) → IsTruth (Some v) b → first_fault (truth_checks (Some v)) ≡ None
truth_passes v b is = rw is refl

output_passes : (v : Data) (o : Output) → IsOutput (Some v) o → first_fault (word_checks output_words (Some v)) ≡ None
output_passes v output.Color is = rw is refl
output_passes v output.Depth is = rw is refl

cull_passes : (v : Data) (mode : Cull) → IsCull (Some v) mode → first_fault (word_checks cull_words (Some v)) ≡ None
cull_passes v cull.None is = rw is refl
cull_passes v cull.Front is = rw is refl
cull_passes v cull.Back is = rw is refl

depth_test_passes : (v : Data) (t : DepthTest) → IsDepthTest (Some v) t → first_fault (word_checks depth_test_words (Some v)) ≡ None
depth_test_passes v test.Never is = rw is refl
depth_test_passes v test.Less is = rw is refl
depth_test_passes v test.Equal is = rw is refl
depth_test_passes v test.LessEqual is = rw is refl
depth_test_passes v test.Greater is = rw is refl
depth_test_passes v test.NotEqual is = rw is refl
depth_test_passes v test.GreaterEqual is = rw is refl
depth_test_passes v test.Always is = rw is refl

blend_passes : (v : Data) (blend : Blend) → IsBlend (Some v) blend → first_fault (word_checks blend_words (Some v)) ≡ None
blend_passes v blend is = named is.0 is.1 is.2
  where
    named : (word : List ℕ) → text (Some v) ≡ Some word → NamesBlend word blend → first_fault (word_checks blend_words (Some v)) ≡ None
    named word found (inl none) = rw (found, none.0) refl
    named word found (inr over) = rw (found, over.0) refl

-- ---- arrays of a fixed length

pub vertex_passes : (d : Data) (v : Vertex) → IsVertex d v → first_fault (vertex_checks d) ≡ None
vertex_passes d v is = rw (
  is.array,
  is.x.0,
  band_in_range _ is.x.1,
  is.y.0,
  band_in_range _ is.y.1,
  is.z.0,
  in_range _ _ _ is.z.1 is.z.2,
  is.red.0,
  in_range _ _ _ is.red.1 is.red.2,
  is.green.0,
  in_range _ _ _ is.green.1 is.green.2,
  is.blue.0,
  in_range _ _ _ is.blue.1 is.blue.2,
  is.alpha.0,
  in_range _ _ _ is.alpha.1 is.alpha.2,
) refl

pub triangle_passes : (n : ℕ) (d : Data) (t : List ℕ) → IsTriangle n d t → first_fault (triangle_checks n d) ≡ None
triangle_passes n d t is = rw (is.array, is.first.0, index_in_range n _ is.first.1, is.second.0, index_in_range n _ is.second.1, is.third.0, index_in_range n _ is.third.1) refl

strip_index_passes : (n : ℕ) (d : Data) (k : ℕ) → IsStripIndex n d k → first_fault (strip_index_checks n d) ≡ None
strip_index_passes n d k is = rw (is.0, index_in_range n k is.1) refl

-- the corners of a quad as they are written are those of its vertices
quad_convex : (vs : List Vertex) (d : Data) (quad : List ℕ) → IsQuad vs d quad
    → let corner : ℕ → Position = λ i. corner_written (map (λ v. v.at) vs) (at i d) in is_strictly_convex (corner 0) (corner 1) (corner 2) (corner 3) ≡ true
quad_convex vs d quad is = rw (
  same_corner vs _ _ _ is.first,
  same_corner vs _ _ _ is.second,
  same_corner vs _ _ _ is.third,
  same_corner vs _ _ _ is.fourth,
) (convex_is_true _ _ _ _ is.convex)

pub quad_passes : (vs : List Vertex) (d : Data) (quad : List ℕ) → IsQuad vs d quad → first_fault (quad_checks_at (length vs) (map (λ v. v.at) vs) d) ≡ None
quad_passes vs d quad is =
    rw (
      is.array,
      quad_convex vs d quad is,
      is.first.0,
      index_in_range (length vs) _ is.first.1,
      is.second.0,
      index_in_range (length vs) _ is.second.1,
      is.third.0,
      index_in_range (length vs) _ is.third.1,
      is.fourth.0,
      index_in_range (length vs) _ is.fourth.1,
    ) refl

colour_passes : (v : Data) (colour : List ℕ) → IsClearColour (Some v) colour → first_fault (colour_checks (Some v)) ≡ None
colour_passes v colour is = rw (is.array, is.red.0, in_range _ _ _ is.red.1 is.red.2, is.green.0, in_range _ _ _ is.green.1 is.green.2, is.blue.0, in_range _ _ _ is.blue.1 is.blue.2) refl

write_mask_passes : (v : Data) (write : List Bool) → IsWriteMask (Some v) write → first_fault (write_mask_checks (Some v)) ≡ None
write_mask_passes v write is = rw (is.array, is.red, is.green, is.blue) refl

scissor_passes : (v : Data) (scissor : PixelBox) → IsScissor (Some v) scissor → first_fault (scissor_checks (Some v)) ≡ None
scissor_passes v scissor is = rw (
  is.array,
  is.left.0,
  in_range _ _ _ is.left.1 is.left.2,
  is.top.0,
  in_range _ _ _ is.top.1 is.top.2,
  is.right.0,
  in_range _ _ _ is.right.1 is.right.2,
  is.bottom.0,
  in_range _ _ _ is.bottom.1 is.bottom.2,
) refl

-- ---- the state of a draw

merge_passes : (d : Data) (merge : Merge) → IsMerge d merge → first_fault (merge_checks d) ≡ None
unfolding merge_checks
merge_passes d merge is =
    let write = key_passes _ IsWriteMask write_mask_checks write_mask_passes (get (codes "write") d) merge.write is.write in
    let blend = key_passes _ IsBlend (word_checks blend_words) blend_passes (get (codes "blend") d) merge.blend is.blend in
    let depth_write = key_passes _ IsTruth truth_checks truth_passes (get (codes "depth_write") d) merge.depth_write is.depth_write in
    let depth_test = key_passes _ IsDepthTest (word_checks depth_test_words) depth_test_passes (get (codes "depth_test") d) merge.test is.depth_test in
    let writes : KindChecks = where_there write_mask_checks (get (codes "write") d) in
    let blends : KindChecks = where_there (word_checks blend_words) (get (codes "blend") d) in
    let depth_writes : KindChecks = where_there truth_checks (get (codes "depth_write") d) in
    let depth_tests : KindChecks = where_there (word_checks depth_test_words) (get (codes "depth_test") d) in
    both_pass depth_tests (depth_writes ++ (blends ++ writes)) depth_test (both_pass depth_writes (blends ++ writes) depth_write (both_pass blends writes blend write))

state_passes : (picture : PixelBox) (d : Data) (state : State) → IsState picture d state → first_fault (state_value_checks d) ≡ None
unfolding state_value_checks
state_passes picture d state is =
    let scissor = key_passes _ IsScissor scissor_checks scissor_passes (get (codes "scissor") d) state.scissor is.scissor in
    let sample_mask = key_passes _ IsSampleMaskNumber sample_mask_checks sample_mask_passes (get (codes "sample_mask") d) state.sample_mask is.sample_mask in
    let cull = key_passes _ IsCull (word_checks cull_words) cull_passes (get (codes "cull") d) state.cull is.cull in
    let scissors : KindChecks = where_there scissor_checks (get (codes "scissor") d) in
    let sample_masks : KindChecks = where_there sample_mask_checks (get (codes "sample_mask") d) in
    let culls : KindChecks = where_there (word_checks cull_words) (get (codes "cull") d) in
    both_pass culls (merge_checks d ++ (sample_masks ++ scissors)) cull
    (both_pass (merge_checks d) (sample_masks ++ scissors) (merge_passes d state.merge is.merge) (both_pass sample_masks scissors sample_mask scissor))

-- ---- the vertices and the primitives of a draw

pub each_passes : {X : Type 0} (checks : Data → KindChecks) (Is : Data → X → Type 0) → ((d : Data) (x : X) → Is d x → first_fault (checks d) ≡ None)
    → (ds : Items) (xs : List X) → Each Is ds xs → first_fault (each checks ds) ≡ None
each_passes checks Is passes no_items xs h = refl
each_passes checks Is passes (item d ds) [] h = absurd h
each_passes checks Is passes (item d ds) (x ∷ xs) h = both_pass (checks d) (each checks ds) (passes d x h.0) (each_passes checks Is passes ds xs h.1)

not_over : (most n : ℕ) → n ≤ most → nat_lt most n ≡ false
not_over most n h = grind (arith, nat_tests)

array_passes : {X : Type 0} (most : ℕ) (Is : Data → X → Type 0) (value : Option Data) (xs : List X) → IsArrayOf most Is value xs → first_fault (array_checks most value) ≡ None
array_passes most Is value xs is =
    let many = items_len_each Is (elements value) xs is.parts in
    let few : count value ≤ most = omega (arith, many, is.at_most) in
    rw (there (array_of value) is.array, not_over most (count value) few) refl

vertices_pass : (v : Option Data) (xs : List Vertex) → IsArrayOf 65536 IsVertex v xs → first_fault (vertices_checks v) ≡ None
unfolding vertices_checks
vertices_pass v xs is = both_pass (array_checks 65536 v) (each vertex_checks (elements v)) (array_passes _ _ _ _ is) (each_passes vertex_checks IsVertex vertex_passes _ xs is.parts)

triangles_pass : (earlier n : ℕ) (t : Option Data) (xs : List (List ℕ)) → IsArrayOf 65536 (IsTriangle n) t xs → earlier + length xs ≤ 65536 → first_fault (triangles_checks earlier n t) ≡ None
unfolding triangles_checks
triangles_pass earlier n t xs is room =
    let many = items_len_each (IsTriangle n) (elements t) xs is.parts in
    let few : earlier + count t ≤ 65536 = omega (arith, many) in
    let each_one = each_passes (triangle_checks n) (IsTriangle n) (triangle_passes n) _ xs is.parts in
    let later : KindChecks = sum_check earlier (count t) ∷ each (triangle_checks n) (elements t) in
    let passed : first_fault later ≡ None = rw (not_over 65536 (earlier + count t) few) each_one in
    both_pass (array_checks 65536 t) later (array_passes _ _ _ _ is) passed

strip_pass : (earlier n : ℕ) (s : Option Data) (xs : List ℕ) → IsArrayOf 65538 (IsStripIndex n) s xs → earlier + strip_count (length xs) ≤ 65536 → first_fault (strip_checks earlier n s) ≡ None
unfolding strip_checks
strip_pass earlier n s xs is room =
    let many = items_len_each (IsStripIndex n) (elements s) xs is.parts in
    let few : earlier + strip_count (count s) ≤ 65536 = omega (arith, many) in
    let each_one = each_passes (strip_index_checks n) (IsStripIndex n) (strip_index_passes n) _ xs is.parts in
    let later : KindChecks = sum_check earlier (strip_count (count s)) ∷ each (strip_index_checks n) (elements s) in
    let passed : first_fault later ≡ None = rw (not_over 65536 (earlier + strip_count (count s)) few) each_one in
    both_pass (array_checks 65538 s) later (array_passes _ _ _ _ is) passed

quads_pass : (earlier : ℕ) (vs : List Vertex) (q : Option Data) (xs : List (List ℕ)) → IsArrayOf 32768 (IsQuad vs) q xs → earlier + quads_count (length xs) ≤ 65536
    → first_fault (quads_checks earlier (length vs) (map (λ v. v.at) vs) q) ≡ None
unfolding quads_checks
quads_pass earlier vs q xs is room =
    let checks : Data → KindChecks = quad_checks_at (length vs) (map (λ v. v.at) vs) in
    let many = items_len_each (IsQuad vs) (elements q) xs is.parts in
    let few : earlier + quads_count (count q) ≤ 65536 = omega (arith, many) in
    let each_one = each_passes checks (IsQuad vs) (quad_passes vs) _ xs is.parts in
    let later : KindChecks = sum_check earlier (quads_count (count q)) ∷ each checks (elements q) in
    let passed : first_fault later ≡ None = rw (not_over 65536 (earlier + quads_count (count q)) few) each_one in
    both_pass (array_checks 32768 q) later (array_passes _ _ _ _ is) passed

-- what passes if it is there passes also if it may be absent
passes_where_there : (checks : Option Data → KindChecks) (value : Option Data) → first_fault (checks value) ≡ None → first_fault (where_there checks value) ≡ None
passes_where_there checks None passes = refl
passes_where_there checks (Some v) passes = passes

nothing_there : (checks : Option Data → KindChecks) (value : Option Data) → value ≡ None → first_fault (where_there checks value) ≡ None
nothing_there checks value none = rw none refl

-- the lists of primitives, of which one is there
module _ (earlier : ℕ) (vs : List Vertex) (t s q : Option Data) where
  abbrev Pass : Type 0
  Pass = first_fault (primitive_checks earlier (length vs) (map (λ v. v.at) vs) t s q) ≡ None

  all_pass : first_fault (where_there (triangles_checks earlier (length vs)) t) ≡ None → first_fault (where_there (strip_checks earlier (length vs)) s) ≡ None
      → first_fault (where_there (quads_checks earlier (length vs) (map (λ v. v.at) vs)) q) ≡ None → Pass
  all_pass triangles strip quads =
      let strips : KindChecks = where_there (strip_checks earlier (length vs)) s in
      let others : KindChecks = where_there (quads_checks earlier (length vs) (map (λ v. v.at) vs)) q in
      both_pass (where_there (triangles_checks earlier (length vs)) t) (strips ++ others) triangles (both_pass strips others strip quads)

  primitives_pass : (p : PrimitiveListing) → IsPrimitives vs t s q p → earlier + count_of_triangles p ≤ 65536 → Pass
  primitives_pass (triangle_list xs) is room =
      all_pass (passes_where_there (triangles_checks earlier (length vs)) t (triangles_pass earlier (length vs) t xs is.0 room))
      (nothing_there (strip_checks earlier (length vs)) s is.1) (nothing_there (quads_checks earlier (length vs) (map (λ v. v.at) vs)) q is.2)
  primitives_pass (triangle_strip xs) is room =
      all_pass (nothing_there (triangles_checks earlier (length vs)) t is.1)
      (passes_where_there (strip_checks earlier (length vs)) s (strip_pass earlier (length vs) s xs is.0 room))
      (nothing_there (quads_checks earlier (length vs) (map (λ v. v.at) vs)) q is.2)
  primitives_pass (quad_list xs) is room =
      all_pass (nothing_there (triangles_checks earlier (length vs)) t is.1) (nothing_there (strip_checks earlier (length vs)) s is.2)
      (passes_where_there (quads_checks earlier (length vs) (map (λ v. v.at) vs)) q (quads_pass earlier vs q xs is.0 room))

array_there : (value : Option Data) → IsSome (array_of value) → is_none value ≡ false
array_there None is = let bad : false ≡ true = is in absurd (cc)
array_there (Some v) is = refl

array_is_some : (value : Option Data) → IsSome (array_of value) → is_some value ≡ true
array_is_some None is = let bad : false ≡ true = is in absurd (cc)
array_is_some (Some v) is = refl

-- one of the three lists of primitives is there
one_list : (vs : List Vertex) (t s q : Option Data) (p : PrimitiveListing) → IsPrimitives vs t s q p → (is_none_there t s q ≡ false) × (are_two_there t s q ≡ false)
one_list vs t s q (triangle_list xs) is = rw (array_there t is.0.array, array_is_some t is.0.array, is.1, is.2) (refl, refl)
one_list vs t s q (triangle_strip xs) is = rw (array_there s is.0.array, array_is_some s is.0.array, is.1, is.2) (refl, refl)
one_list vs t s q (quad_list xs) is = rw (array_there q is.0.array, array_is_some q is.0.array, is.1, is.2) (refl, refl)

parts_pass : (earlier : ℕ) (v t s q : Option Data) (draw : DrawListing) → IsArrayOf 65536 IsVertex v draw.vertices → IsPrimitives draw.vertices t s q draw.primitives
    → earlier + count_of_triangles draw.primitives ≤ 65536 → first_fault (part_checks earlier v t s q) ≡ None
parts_pass earlier v t s q draw vs is room =
    let n = items_len_each IsVertex (elements v) draw.vertices vs.parts in
    let places = same_places (elements v) draw.vertices vs.parts in
    let lists : KindChecks = primitive_checks earlier (count v) (positions_written (elements v)) t s q in
    let passed : first_fault lists ≡ None = rw (n, places) (primitives_pass earlier draw.vertices t s q draw.primitives is room) in
    both_pass (where_there vertices_checks v) lists (passes_where_there vertices_checks v (vertices_pass v draw.vertices vs)) passed

-- ---- the draws

pub draw_passes : (picture : PixelBox) (earlier : ℕ) (d : Data) (draw : DrawListing) → IsDraw picture d draw → earlier + count_of_triangles draw.primitives ≤ 65536
    → first_fault (draw_value_checks earlier d) ≡ None
draw_passes picture earlier d draw is room =
    let vertices = get (codes "vertices") d in
    let triangles = get (codes "triangles") d in
    let strip = get (codes "strip") d in
    let quads = get (codes "quads") d in
    let one = one_list draw.vertices triangles strip quads draw.primitives is.primitives in
    let parts = parts_pass earlier vertices triangles strip quads draw is.vertices is.primitives room in
    let rest = both_pass (state_value_checks d) (part_checks earlier vertices triangles strip quads) (state_passes picture d draw.state is.state) parts in
    rw (there (as_object d) is.object, is.keys, array_there vertices is.vertices.array, one.0, one.1) rest

pub draws_pass : (picture : PixelBox) (number earlier : ℕ) (ds : Items) (xs : List DrawListing) → Each (IsDraw picture) ds xs
    → earlier + sum_by (λ d. count_of_triangles d.primitives) xs ≤ 65536 → first_fault (numbered_draw_checks number earlier ds) ≡ None
draws_pass picture number earlier no_items xs h room = refl
draws_pass picture number earlier (item d ds) [] h room = absurd h
draws_pass picture number earlier (item d ds) (x ∷ xs) h room =
    let many = given_is x.vertices _ _ _ x.primitives h.0.primitives in
    let total = sum_by-append (λ (d : DrawListing). count_of_triangles d.primitives) (x ∷ []) xs in
    both_pass (reported_as (fault_in_draw number) (draw_value_checks earlier d)) _ (reported_pass (fault_in_draw number) (draw_value_checks earlier d) (draw_passes picture earlier d x h.0 (omega (arith, total))))
    (draws_pass picture (number + 1) (earlier + triangles_counted d) ds xs h.1 (omega (arith, many, total)))

-- ---- the whole list

clear_passes : (d : Data) (l : Listing) → IsListing d l → first_fault (clear_checks d) ≡ None
unfolding clear_checks
clear_passes d l is =
    let depth = key_passes _ IsDepthNumber depth_checks depth_passes (get (codes "clear_depth") d) l.clear.z is.clear_depth in
    let colour = key_passes _ IsClearColour colour_checks colour_passes (get (codes "clear") d) (l.clear.r ∷ l.clear.g ∷ l.clear.b ∷ []) is.clear in
    let count = key_passes _ IsSampleCount sample_count_checks sample_count_passes (get (codes "samples") d) l.count is.samples in
    let output = key_passes _ IsOutput (word_checks output_words) output_passes (get (codes "output") d) l.output is.output in
    let outputs : KindChecks = where_there (word_checks output_words) (get (codes "output") d) in
    let depths : KindChecks = where_there depth_checks (get (codes "clear_depth") d) in
    let colours : KindChecks = where_there colour_checks (get (codes "clear") d) in
    let counts : KindChecks = where_there sample_count_checks (get (codes "samples") d) in
    both_pass counts (colours ++ (depths ++ outputs)) count (both_pass colours (depths ++ outputs) colour (both_pass depths outputs depth output))

number_there : (value : Option Data) (z : ℤ) → whole value ≡ Some z → is_none value ≡ false
number_there None z is = absurd (cc)
number_there (Some v) z is = refl

top_passes : (d : Data) (l : Listing) → IsListing d l → first_fault (top_checks d) ≡ None
unfolding top_checks
top_passes d l is =
    let width = get (codes "width") d in
    let height = get (codes "height") d in
    let draws = array_passes 1024 (IsDraw _) (get (codes "draws") d) l.draws is.draws in
    let rest = both_pass (clear_checks d) (array_checks 1024 (get (codes "draws") d)) (clear_passes d l is) draws in
    rw (
      there (as_object d) is.object,
      is.keys,
      number_there width _ is.width.0,
      number_there height _ is.height.0,
      array_there _ is.draws.array,
      is.width.0,
      in_range _ _ _ is.width.1 is.width.2,
      is.height.0,
      in_range _ _ _ is.height.1 is.height.2,
    ) rest

-- the top object passes, and its draws do
pub value_passes : (d : Data) (draws : Items) → draws ≡ elements (get (codes "draws") d) → first_fault (top_checks d) ≡ None → first_fault (numbered_draw_checks 0 0 draws) ≡ None
    → first_fault (value_checks d) ≡ None
value_passes d draws are top later =
    both_pass (reported_as outside (top_checks d)) (numbered_draw_checks 0 0 (elements (get (codes "draws") d))) (reported_pass outside (top_checks d) top) (rw are at later)

pub listing_passes : (d : Data) (l : Listing) → IsListing d l → first_fault (value_checks d) ≡ None
listing_passes d l is =
    value_passes d (elements (get (codes "draws") d)) refl (top_passes d l is) (draws_pass _ 0 0 (elements (get (codes "draws") d)) l.draws is.draws.parts (omega (arith, is.triangles)))
