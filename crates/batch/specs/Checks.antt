-- The checks of a batch, in their order. Only vertices which an index names are looked at.
use Rattle.std.specs.Prelude.{◌≡◌, ℕ, ℤ, ◌+◌, ◌%◌, ◌<◌, ◌≤◌, Option, List, [], ◌∷◌, length, map, take, drop}
use Rattle.draw_list.specs.Primitives.{PrimitiveListing, triangle_list, triangle_strip, quad_list, count_of_triangles, IsConvexOver}
use Rattle.checks.specs.Checking.{Checks, done, check, followed_by, reported_as}
use Rattle.batch.specs.declared.draw.BatchDraw.{BatchDraw}
use Rattle.batch.specs.declared.vertex.BatchVertex.{BatchVertex}
use Rattle.batch.specs.declared.fault.BatchCause.TheVariants.{TooFewVertices, TooFewIndices, NotWhole, TooManyIds, BadPosition, NotConvex}
use Rattle.batch.specs.declared.fault.BatchFault.{BatchFault}
use Rattle.batch.specs.declared.fault.DrawFault.{DrawFault}
use Rattle.batch.specs.Causes.{of_draw, at_element, bad_index, in_draw, left_over}
use Rattle.batch.specs.States.{state_checks}
use Rattle.batch.specs.Listed.{vertex_listed, corners_of, primitives_listed, draws_of}
use Rattle.batch.specs.Seen.{vertex_at, CanBeSeen, AreSeen}
use Rattle.batch.specs.Ids.{HasIds, ids_after}
use Rattle.batch.specs.OwnIndices.{count_of_indices, indices_behind, own_indices}

-- The vertices of a quad can be seen, and are the corners of a strictly convex quad.
pub record IsQuadSeen (x y : ℤ) (vertices : List BatchVertex) (quad : List ℕ) : Type 0 where
  pub seen : AreSeen x y vertices quad
  pub convex : IsConvexOver (map vertex_listed vertices) quad

-- A check for each element, of which the first is numbered `number`.
abbrev pub each_check : {X : Type 0} → (X → Type 0) → (ℕ → X → DrawFault) → ℕ → List X → Checks DrawFault
each_check Holds fault number [] = done
each_check Holds fault number (x ∷ xs) = check (Holds x) (fault number x) (each_check Holds fault (number + 1) xs)

-- Each index names one of this many vertices. What is wrong is an index.
abbrev pub index_checks : ℕ → List ℕ → Checks DrawFault
index_checks count indices = each_check (λ k. k < count) bad_index 0 indices

-- Each vertex that an index names can be seen. What is wrong is a vertex.
abbrev pub position_checks : ℤ → ℤ → List BatchVertex → List ℕ → Checks DrawFault
position_checks x y vertices indices = each_check (λ k. CanBeSeen x y (vertex_at vertices k)) (λ number k. at_element BadPosition k) 0 indices

-- If the primitives are quads, each of them is seen and strictly convex. What is wrong is a quad. Once the vertices can be seen, only one
-- that is not strictly convex fails.
abbrev pub quad_checks : ℤ → ℤ → List BatchVertex → PrimitiveListing → Checks DrawFault
quad_checks x y vertices (triangle_list triangles) = done
quad_checks x y vertices (triangle_strip indices) = done
quad_checks x y vertices (quad_list quads) = each_check (IsQuadSeen x y vertices) (λ number quad. at_element NotConvex number) 0 quads

-- The elements of a draw of these vertices: its indices, then the vertices that they name, then its quads.
abbrev pub element_checks : ℤ → ℤ → List BatchVertex → ℕ → List ℕ → Checks DrawFault
element_checks x y vertices topology indices =
    followed_by (index_checks (length vertices) indices)
    (followed_by (position_checks x y vertices indices)
    (quad_checks x y vertices (primitives_listed topology indices)))

-- The primitives of a draw of these vertices.
abbrev pub primitives_checks : ℤ → ℤ → Option ℕ → List BatchVertex → ℕ → List ℕ → Checks DrawFault
primitives_checks x y ids vertices topology indices =
    check (length indices % corners_of topology ≡ 0) (of_draw NotWhole) (
    check (HasIds ids (count_of_triangles (primitives_listed topology indices))) (of_draw TooManyIds)
    (element_checks x y vertices topology indices))

-- The checks of a draw that come before its vertices and primitives.
abbrev pub opening_checks : BatchDraw → List BatchVertex → Option (List ℕ) → Checks DrawFault
opening_checks d vertices indices =
    check (d.vertices ≤ length vertices) (of_draw TooFewVertices) (
    check (d.indices ≤ count_of_indices indices) (of_draw TooFewIndices)
    (reported_as of_draw (state_checks d)))

-- A draw, whose vertices and indices are the first of these.
abbrev pub draw_checks : ℤ → ℤ → Option ℕ → BatchDraw → List BatchVertex → Option (List ℕ) → Checks DrawFault
draw_checks x y ids d vertices indices =
    followed_by (opening_checks d vertices indices)
    (primitives_checks x y ids (take d.vertices vertices) d.topology (own_indices d indices))

-- How many triangles a draw has, whose indices are the first of these.
abbrev pub triangles_listed : BatchDraw → Option (List ℕ) → ℕ
triangles_listed d indices = count_of_triangles (primitives_listed d.topology (own_indices d indices))

-- The checks of draws, numbered from `number` on: those of each in turn, and then that no vertex and no index is left.
abbrev pub draws_checks : ℤ → ℤ → ℕ → Option ℕ → List BatchDraw → List BatchVertex → Option (List ℕ) → Checks BatchFault
draws_checks x y number ids [] vertices indices = check ((vertices ≡ []) × (count_of_indices indices ≡ 0)) left_over done
draws_checks x y number ids (d ∷ ds) vertices indices =
    followed_by (reported_as (in_draw number) (draw_checks x y ids d vertices indices))
    (draws_checks x y (number + 1) (ids_after ids (triangles_listed d indices)) ds (drop d.vertices vertices) (indices_behind d.indices indices))

-- The checks of a batch.
abbrev pub batch_checks : ℤ → ℤ → Option ℕ → List BatchDraw → List BatchVertex → Option (List ℕ) → Checks BatchFault
batch_checks x y ids draws vertices indices = draws_checks x y 0 ids (draws_of draws vertices indices) vertices indices
