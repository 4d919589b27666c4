-- The vertices of a draw in the caller's array.
use Rattle.std.proofs.Common.{◌≡◌, refl, Bool, ℕ, zero, suc, ℤ, pos, Option, List, [], ◌∷◌, map, take}
use Rattle.std.specs.Prelude.{slice_index, slice_index_or}
use Rattle.shade.specs.declared.placed.Placed.{Placed}
use Rattle.draw_list.specs.declared.draw.Vertex.{Vertex}
use Rattle.draw_list.specs.Primitives.{vertex_position}
use Rattle.draw_list.specs.Listing.{placed, triangle_of}
use Rattle.batch.specs.declared.draw.BatchDraw.{BatchDraw}
use Rattle.batch.specs.declared.vertex.BatchVertex.{BatchVertex}
use Rattle.batch.specs.Listed.{vertex_listed, state_listed, draw_listed}
use Rattle.canvas.specs.Window.{moved_state, moved}
use Rattle.batch.specs.Seen.{vertex_at, vertex_seen}

pub position_at : (vs : List BatchVertex) (k : ℕ) → vertex_position (map vertex_listed vs) k ≡ (vertex_listed (vertex_at vs k)).at
position_at [] k = refl
position_at (v ∷ vs) zero = refl
position_at (v ∷ vs) (suc k) = position_at vs k

pub listed_at : (vs : List BatchVertex) (k : ℕ)
    → slice_index_or (map vertex_listed vs) k (record { at = record { x = pos 0; y = pos 0 }; z = 0; rgba = 0 ∷ 0 ∷ 0 ∷ 0 ∷ [] }) ≡ vertex_listed (vertex_at vs k)
listed_at [] k = refl
listed_at (v ∷ vs) zero = refl
listed_at (v ∷ vs) (suc k) = listed_at vs k

-- a triangle of a draw, made of three vertices as they are seen
module _ (has_alpha : Bool) (x y : ℤ) (d : BatchDraw) (vs : List BatchVertex) (is : Option (List ℕ)) where
  abbrev own : List BatchVertex
  own = take d.vertices vs

  abbrev seen_at : List ℕ → ℕ → Vertex
  seen_at triangle i = vertex_seen x y (vertex_at own (slice_index triangle i))

  abbrev seen : List ℕ → Placed
  seen triangle = triangle_of (moved_state x y (state_listed has_alpha d)) (seen_at triangle 0) (seen_at triangle 1) (seen_at triangle 2)

  seen_is : (triangle : List ℕ) → seen triangle ≡ moved x y (placed (draw_listed has_alpha d vs is) triangle)
  seen_is triangle =
      let a = listed_at own (slice_index triangle 0) in
      let b = listed_at own (slice_index triangle 1) in
      let c = listed_at own (slice_index triangle 2) in
      rw (a, b, c) refl

  pub seen_all : (triangles : List (List ℕ)) → map seen triangles ≡ map (moved x y) (map (placed (draw_listed has_alpha d vs is)) triangles)
  seen_all [] = refl
  seen_all (triangle ∷ triangles) = rw (seen_is triangle, seen_all triangles) refl
