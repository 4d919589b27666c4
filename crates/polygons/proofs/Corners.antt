-- A ring with a further corner winds as the ring does, but in the triangle between the edge and the corner.
use Rattle.std.proofs.Common.{◌≡◌, sym, ap, subst, ◌∙◌, arith, List, [], ◌∷◌, ◌++◌, append_assoc, ◌+ℤ◌}
use Rattle.std.proofs.lemmas.Int.{ints}
use Rattle.std.proofs.lemmas.Grind.{flat_map-append}
use Rattle.std.proofs.lemmas.List.Concat.{flat_map-cons}
use Rattle.grid.specs.Position.{Position}
use Rattle.polygons.specs.declared.edge.Edge.{Edge}
use Rattle.polygons.specs.Crossing.{winding}
use Rattle.polygons.specs.Polygon.{path_edges, path_end, ring_edges, polygon_edges}
use Rattle.polygons.specs.Junctions.{IsInSliver, edge_to_next, HasCornerMore}
use Rattle.polygons.proofs.Counts.{downs-append, ups-append}
use Rattle.polygons.proofs.Cuts.{direction-cut, winding-one}
use Rattle.polygons.proofs.RunBoxes.{path_joined}

winding-append : (es fs : List Edge) (p : Position) → winding (es ++ fs) p ≡ winding es p +ℤ winding fs p
winding-append es fs p = let d = downs-append es fs p in let u = ups-append es fs p in omega (arith, ints)

-- one ring among others
winding-ring : (others behind : List (List Position)) (ring : List Position) (p : Position)
    → winding (polygon_edges (others ++ ring ∷ behind)) p ≡ winding (polygon_edges others) p +ℤ (winding (ring_edges ring) p +ℤ winding (polygon_edges behind) p)
winding-ring others behind ring p =
    rw (flat_map-append ring_edges others (ring ∷ behind), flat_map-cons ring_edges ring behind)
    (let a = winding-append (polygon_edges others) (ring_edges ring ++ polygon_edges behind) p in
    let b = winding-append (ring_edges ring) (polygon_edges behind) p in
    omega (arith, ints))

-- a ring from its first corner along a path, and from there back
winding-closed : (first : Position) (path behind : List Position) (p : Position)
    → winding (ring_edges (first ∷ path ++ behind)) p ≡ winding (path_edges first path) p +ℤ winding (path_edges (path_end first path) (behind ++ first ∷ [])) p
winding-closed first path behind p = rw (append_assoc path behind (first ∷ [])) (path_joined first path (behind ++ first ∷ []) p)

-- the way on by a further corner
winding-by : (first : Position) (path behind : List Position) (q p : Position) → ¬ IsInSliver (edge_to_next first path behind) q p
    → winding (path_edges (path_end first path) (behind ++ first ∷ [])) p ≡ winding (path_edges (path_end first path) (q ∷ behind ++ first ∷ [])) p
winding-by first path [] q p n =
    let a : Edge = record { a = path_end first path; b = first } in
    let b : Edge = record { a = path_end first path; b = q } in
    let c : Edge = record { a = q; b = first } in
    let d = direction-cut a q p n in
    let u = winding-one a [] p in
    let v = winding-one b (c ∷ []) p in
    let w = winding-one c [] p in
    omega (arith, ints)
winding-by first path (next ∷ behind) q p n =
    let a : Edge = record { a = path_end first path; b = next } in
    let b : Edge = record { a = path_end first path; b = q } in
    let c : Edge = record { a = q; b = next } in
    let d = direction-cut a q p n in
    let u = winding-one a (path_edges next (behind ++ first ∷ [])) p in
    let v = winding-one b (c ∷ path_edges next (behind ++ first ∷ [])) p in
    let w = winding-one c (path_edges next (behind ++ first ∷ [])) p in
    omega (arith, ints)

pub winding-corner : (e : Edge) (q : Position) (rings more : List (List Position)) (p : Position) → HasCornerMore e q rings more → ¬ IsInSliver e q p
    → winding (polygon_edges rings) p ≡ winding (polygon_edges more) p
winding-corner e q rings more p h n =
    let off : ¬ IsInSliver (edge_to_next h.first h.path h.behind) q p = subst (λ (f : Edge). ¬ IsInSliver f q p) h.edge n in
    let old = winding-ring h.others h.others_behind (h.first ∷ h.path ++ h.behind) p in
    let new = winding-ring h.others h.others_behind (h.first ∷ h.path ++ q ∷ h.behind) p in
    let closed = winding-closed h.first h.path h.behind p in
    let by = winding-closed h.first h.path (q ∷ h.behind) p in
    let same = winding-by h.first h.path h.behind q p off in
    ap (λ rs. winding (polygon_edges rs) p) h.without ∙ omega (arith, ints) ∙ sym (ap (λ rs. winding (polygon_edges rs) p) h.with)
