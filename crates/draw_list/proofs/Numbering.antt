-- The triangles of a draw list by their numbers.
use Rattle.std.proofs.Common.{◌≡◌, refl, sym, ap, ◌∙◌, ℕ, ◌+◌, ◌<◌, ◌≤◌, List, [], ◌∷◌, ◌++◌, length, map, take, get_or, slice_get, Some, arith}
use Rattle.std.specs.List.{All, flat_map, sum_by}
use Rattle.std.proofs.lemmas.List.{length-map, get_or-map}
use Rattle.std.proofs.lemmas.List.Concat.{get_or-flat_map, length-flat_map}
use Rattle.std.proofs.lemmas.List.Sums.{sum_by-cons, sum_by_more_le}
use Rattle.std.proofs.lemmas.List.Elements.{All-map}
use Rattle.std.proofs.lemmas.Option.{slice_get-get_or}
use Rattle.draw_list.specs.declared.draw.Draw.{Draw}
use Rattle.draw_list.specs.Primitives.{triangles_of as indices_of, count_of_triangles, primitive_listing}
use Rattle.shade.specs.declared.placed.Placed.{Placed}
use Rattle.draw_list.specs.Listing.{IsDrawWithinLimits, AreWithinLimits, draw_listing, placed, placed_all}
use Rattle.draw_list.proofs.Triangulated.{length-triangles_of}

abbrev pub triangles_of : Draw → List Placed
triangles_of d = placed_all (draw_listing d)

abbrev pub count_of : Draw → ℕ
count_of d = count_of_triangles (primitive_listing d.primitives)

-- the triangles of a draw, each by the indices of its vertices
abbrev pub indices_of_draw : Draw → List (List ℕ)
indices_of_draw d = indices_of (primitive_listing d.primitives)

fused : (ds : List Draw) → flat_map placed_all (map draw_listing ds) ≡ flat_map triangles_of ds
fused [] = refl
fused (d ∷ ds) = ap (λ ts. triangles_of d ++ ts) (fused ds)

counted : (ds : List Draw) → sum_by (λ d. length (triangles_of d)) ds ≡ sum_by count_of ds
counted [] = refl
counted (d ∷ ds) =
    omega (arith, sum_by-cons (λ d. length (triangles_of d)) d ds, sum_by-cons count_of d ds, counted ds, length-map (indices_of_draw d) (placed (draw_listing d)), length-triangles_of (primitive_listing d.primitives))

pub length-triangles : (ds : List Draw) → length (flat_map placed_all (map draw_listing ds)) ≡ sum_by count_of ds
length-triangles ds = ap length (fused ds) ∙ length-flat_map triangles_of ds ∙ counted ds

pub triangle_at : (ds : List Draw) (i left number : ℕ) (d : Draw) → i < length ds → d ≡ get_or ds i d → left < count_of d → number ≡ sum_by count_of (take i ds) + left
    → slice_get (flat_map placed_all (map draw_listing ds)) number ≡ Some (placed (draw_listing d) (get_or (indices_of_draw d) left []))
triangle_at ds i left number d h e k n =
    let there : sum_by count_of (take i ds) + count_of (get_or ds i d) ≤ sum_by count_of ds = sum_by_more_le count_of ds i d h in
    let same_count : count_of (get_or ds i d) ≡ count_of d = sym (ap count_of e) in
    let before : length (flat_map triangles_of (take i ds)) ≡ sum_by count_of (take i ds) = length-flat_map triangles_of (take i ds) ∙ counted (take i ds) in
    let x : Placed = placed (draw_listing d) (get_or (indices_of_draw d) left []) in
    let listed : left < length (indices_of_draw d) = omega (arith, length-triangles_of (primitive_listing d.primitives)) in
    let within : number < length (flat_map placed_all (map draw_listing ds)) = omega (arith, length-triangles ds) in
    let of_draw : left < length (triangles_of (get_or ds i d)) = rw (← e) (rw (length-map) listed) in
    let at_draw = get_or-flat_map triangles_of ds i left d x h of_draw in
    let in_draw : get_or (triangles_of d) left x ≡ x = get_or-map (placed (draw_listing d)) (indices_of_draw d) left [] x listed in
    let found : get_or (flat_map placed_all (map draw_listing ds)) number x ≡ x =
    ap (λ ts. get_or ts number x) (fused ds) ∙ ap (λ m. get_or (flat_map triangles_of ds) m x) (omega arith) ∙ at_draw ∙ ap (λ y. get_or (triangles_of y) left x) (sym e) ∙ in_draw in
    slice_get-get_or _ number x within ∙ ap Some found

listed : (ds : List Draw) → sum_by (λ d. count_of_triangles d.primitives) (map draw_listing ds) ≡ sum_by count_of ds
listed [] = refl
listed (d ∷ ds) =
    omega (arith, sum_by-cons (λ d. count_of_triangles d.primitives) (draw_listing d) (map draw_listing ds), sum_by-cons count_of d ds, listed ds)

-- a draw list has at most 65536 triangles
pub most_triangles : (ds : List Draw) → sum_by (λ d. count_of_triangles d.primitives) (map draw_listing ds) ≤ 65536 → sum_by count_of ds ≤ 65536
most_triangles ds h = omega (arith, listed ds)

-- each draw of it is within its limits
pub draw_within : (ds : List Draw) (i : ℕ) (d : Draw) → i < length ds → d ≡ get_or ds i d → All IsDrawWithinLimits (map draw_listing ds) → IsDrawWithinLimits (draw_listing d)
draw_within ds i d h e all =
    let there : i < length (map draw_listing ds) = rw length-map h in
    let of_list : IsDrawWithinLimits (get_or (map draw_listing ds) i (draw_listing d)) = all i (draw_listing d) there in
    rw (get_or-map draw_listing ds i d (draw_listing d) h, ← e) at of_list

pub limits_of : (ds : List Draw) → length ds ≤ 1024 → All (λ d. IsDrawWithinLimits (draw_listing d)) ds → sum_by count_of ds ≤ 65536 → AreWithinLimits (map draw_listing ds)
limits_of ds h all most =
    record { number = rw length-map h; each = All-map IsDrawWithinLimits draw_listing ds all; triangles = omega (arith, listed ds) }
