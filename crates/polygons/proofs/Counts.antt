-- Counts of crossed edges over rings.
use Rattle.std.proofs.Common.{◌≡◌, refl, ◌∙◌, ap, arith, ℕ, ◌+◌, ◌<◌, ◌≤◌, suc, cond, List, [], ◌∷◌, ◌++◌, length, length-append, map, drop, get_or, drop-cons, add-one, Bor, sym}
use Rattle.std.proofs.lemmas.List.Sums.{sum_by-cons, sum_by-append, count_by-le-length}
use Rattle.grid.specs.Position.{Position}
use Rattle.polygons.specs.declared.edge.Edge.{Edge}
use Rattle.polygons.specs.Crossing.{is_crossed_down, is_crossed_up, downs, ups}
use Rattle.polygons.specs.Polygon.{path_edges, ring_edges, polygon_edges, corner_count}

pub downs-append : (es fs : List Edge) (p : Position) → downs (es ++ fs) p ≡ downs es p + downs fs p
downs-append es fs p = sum_by-append (λ e. cond (is_crossed_down e p) 1 0) es fs

pub ups-append : (es fs : List Edge) (p : Position) → ups (es ++ fs) p ≡ ups es p + ups fs p
ups-append es fs p = sum_by-append (λ e. cond (is_crossed_up e p) 1 0) es fs

pub downs-le-length : (es : List Edge) (p : Position) → downs es p ≤ length es
downs-le-length es p = count_by-le-length (λ e. is_crossed_down e p) es

pub ups-le-length : (es : List Edge) (p : Position) → ups es p ≤ length es
ups-le-length es p = count_by-le-length (λ e. is_crossed_up e p) es

length-path : (a : Position) (cs : List Position) → length (path_edges a cs) ≡ length cs
length-path a [] = refl
length-path a (c ∷ cs) = ap suc (length-path c cs)

-- a ring has as many edges as corners
pub length-ring : (ring : List Position) → length (ring_edges ring) ≡ length ring
length-ring [] = refl
length-ring (c ∷ cs) = length-path c (cs ++ c ∷ []) ∙ length-append cs (c ∷ []) ∙ omega arith

-- one more ring
pub downs-ring : (ring : List Position) (rest : List (List Position)) (p : Position)
    → downs (polygon_edges (ring ∷ rest)) p ≡ downs (ring_edges ring) p + downs (polygon_edges rest) p
downs-ring ring rest p = downs-append (ring_edges ring) (polygon_edges rest) p

pub ups-ring : (ring : List Position) (rest : List (List Position)) (p : Position)
    → ups (polygon_edges (ring ∷ rest)) p ≡ ups (ring_edges ring) p + ups (polygon_edges rest) p
ups-ring ring rest p = ups-append (ring_edges ring) (polygon_edges rest) p

pub corners-ring : (ring : List Position) (rest : List (List Position)) → corner_count (ring ∷ rest) ≡ length ring + corner_count rest
corners-ring ring rest = sum_by-cons length ring rest

pub downs-ring-le : (ring : List Position) (p : Position) → downs (ring_edges ring) p ≤ length ring
downs-ring-le ring p = omega (arith, downs-le-length (ring_edges ring) p, length-ring ring)

pub ups-ring-le : (ring : List Position) (p : Position) → ups (ring_edges ring) p ≤ length ring
ups-ring-le ring p = omega (arith, ups-le-length (ring_edges ring) p, length-ring ring)

-- the rings from i on begin with one ring
pub rings_from : (xs : List (Bor (List Position))) (i : ℕ) (r : Bor (List Position)) → i < length xs → r ≡ get_or xs i r
    → map (λ x. x.now) (drop i xs) ≡ r.now ∷ map (λ x. x.now) (drop (i + 1) xs)
rings_from xs i r h e =
    let k : drop i xs ≡ get_or xs i r ∷ drop (i + 1) xs = rw add-one (drop-cons xs i r h) in
    rw k (ap (λ (y : Bor (List Position)). y.now ∷ map (λ x. x.now) (drop (i + 1) xs)) (sym e))
