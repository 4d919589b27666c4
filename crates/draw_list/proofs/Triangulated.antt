-- The triangles of primitives by their numbers.
use Rattle.std.proofs.Common.{◌≡◌, refl, ap, ◌∙◌, ℕ, ◌+◌, ◌*◌, ◌/◌, ◌%◌, ◌<◌, List, [], ◌∷◌, length, take, get_or, arith, length-take}
use Rattle.std.specs.List.{flat_map}
use Rattle.std.proofs.lemmas.List.Concat.{get_or-flat_map}
use Rattle.std.proofs.lemmas.List.FromFn.{length-map-range_with_len, get_or-map-range_with_len}
use Rattle.draw_list.specs.Primitives.{PrimitiveListing, triangle_list, triangle_strip, quad_list, strip_triangle, strip_count, quad_triangles, quads_count, triangles_of, count_of_triangles}

length-quads : (quads : List (List ℕ)) → length (flat_map quad_triangles quads) ≡ quads_count (length quads)
length-quads [] = refl
length-quads (quad ∷ quads) = omega (arith, length-quads quads)

-- the count is that of the triangles
pub length-triangles_of : (p : PrimitiveListing) → length (triangles_of p) ≡ count_of_triangles p
length-triangles_of (triangle_list triangles) = refl
length-triangles_of (triangle_strip indices) =
    length-map-range_with_len (strip_triangle indices) 0 (strip_count (length indices))
length-triangles_of (quad_list quads) = length-quads quads

-- the triangle of a number of a strip
pub strip_triangle_at : (indices : List ℕ) (m : ℕ) (d : List ℕ) → m < strip_count (length indices) → get_or (triangles_of (triangle_strip indices)) m d ≡ strip_triangle indices m
strip_triangle_at indices m d below =
    get_or-map-range_with_len (strip_triangle indices) 0 (strip_count (length indices)) m m d below (omega arith)

-- the triangle of a number of quads
pub quad_triangle_at : (quads : List (List ℕ)) (m : ℕ) (d : List ℕ) → m < quads_count (length quads)
    → get_or (flat_map quad_triangles quads) m d ≡ get_or (quad_triangles (get_or quads (m / 2) [])) (m % 2) d
quad_triangle_at quads m d below =
    let there : m / 2 < length quads = omega arith in
    let before : length (flat_map quad_triangles (take (m / 2) quads)) ≡ 2 * (m / 2) = omega (arith, length-quads (take (m / 2) quads), length-take (m / 2) quads) in
    let place : m ≡ length (flat_map quad_triangles (take (m / 2) quads)) + m % 2 = omega (arith, before) in
    ap (λ n. get_or (flat_map quad_triangles quads) n d) place ∙ get_or-flat_map quad_triangles quads (m / 2) (m % 2) [] d there (omega arith)
