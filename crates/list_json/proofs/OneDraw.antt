-- A JSON value denotes at most one draw.
use Rattle.std.proofs.Common.{◌≡◌, sym, ap, subst, ℕ, ℤ, List, length, true, false, Option, Some, None, codes}
use Rattle.serde_json.specs.Data.{Data}
use Rattle.serde_json.specs.Find.{get}
use Rattle.grid.specs.Position.{Position}
use Rattle.grid.specs.declared.pixels.PixelBox.{PixelBox}
use Rattle.shade.specs.declared.state.State.{State}
use Rattle.draw_list.specs.declared.draw.Vertex.{Vertex}
use Rattle.draw_list.specs.Primitives.{PrimitiveListing, triangle_list, triangle_strip, quad_list}
use Rattle.draw_list.specs.Listing.{DrawListing}
use Rattle.list_json.specs.Denotes.{IsArrayOf, IsVertex, IsTriangle, IsStripIndex, IsQuad, IsPrimitives, IsDraw}
use Rattle.list_json.proofs.OneValue.{IsUnique, same_some, same_number, array-unique, same_three, same_four}
use Rattle.list_json.proofs.OneState.{state-unique}

-- ---- vertices and primitives

position : ℤ → ℤ → Position
position x y = record { x = x; y = y }

made_same_position : (x y x' y' : ℤ) → x ≡ x' → y ≡ y' → position x y ≡ position x' y'
made_same_position x y x' y' e f = cc

pub same_position : (p q : Position) → p.x ≡ q.x → p.y ≡ q.y → p ≡ q
unfolding position
same_position p q e f = made_same_position p.x p.y q.x q.y e f

vertex : Position → ℕ → List ℕ → Vertex
vertex at z rgba = record { at = at; z = z; rgba = rgba }

made_same_vertex : (p q : Position) (z z' : ℕ) (rgba rgba' : List ℕ) → p ≡ q → z ≡ z' → rgba ≡ rgba' → vertex p z rgba ≡ vertex q z' rgba'
made_same_vertex p q z z' rgba rgba' e f g = cc

same_vertex : (v w : Vertex) → v.at ≡ w.at → v.z ≡ w.z → v.rgba ≡ w.rgba → v ≡ w
unfolding vertex
same_vertex v w e f g = made_same_vertex v.at w.at v.z w.z v.rgba w.rgba e f g

vertex-unique : IsUnique IsVertex
vertex-unique value v w h k =
    let at = same_position v.at w.at (same_some _ _ _ h.x.0 k.x.0) (same_some _ _ _ h.y.0 k.y.0) in
    let rgba =
    same_four v.rgba w.rgba h.channels k.channels (same_number _ _ _ h.red.0 k.red.0) (same_number _ _ _ h.green.0 k.green.0) (same_number _ _ _ h.blue.0 k.blue.0) (same_number _ _ _ h.alpha.0 k.alpha.0) in
    same_vertex v w at (same_number _ _ _ h.z.0 k.z.0) rgba

triangle-unique : (n : ℕ) → IsUnique (IsTriangle n)
triangle-unique n value t u h k =
    same_three t u 0 h.indices k.indices (same_number _ _ _ h.first.0 k.first.0) (same_number _ _ _ h.second.0 k.second.0) (same_number _ _ _ h.third.0 k.third.0)

strip_index-unique : (n : ℕ) → IsUnique (IsStripIndex n)
strip_index-unique n value x y h k = same_number _ _ _ h.0 k.0

-- no array stands where nothing does
no_array : {X : Type 0} (most : ℕ) (Is : Data → X → Type 0) (value : Option Data) (found : List X) → IsArrayOf most Is value found → value ≡ None → ⊥
no_array most Is None found is e = let bad : false ≡ true = is.array in absurd (cc)
no_array most Is (Some v) found is e = absurd (cc)

quad-unique : (vs : List Vertex) → IsUnique (IsQuad vs)
quad-unique vs value x y h k =
    same_four x y h.indices k.indices (same_number _ _ _ h.first.0 k.first.0) (same_number _ _ _ h.second.0 k.second.0)
    (same_number _ _ _ h.third.0 k.third.0) (same_number _ _ _ h.fourth.0 k.fourth.0)

-- The three values of which one is a list of primitives.
module _ (vs : List Vertex) (t s q : Option Data) where
  no_triangles : (found : List (List ℕ)) → IsArrayOf 65536 (IsTriangle (length vs)) t found → t ≡ None → ⊥
  no_triangles found is none = no_array 65536 (IsTriangle (length vs)) t found is none

  no_strip : (found : List ℕ) → IsArrayOf 65538 (IsStripIndex (length vs)) s found → s ≡ None → ⊥
  no_strip found is none = no_array 65538 (IsStripIndex (length vs)) s found is none

  no_quads : (found : List (List ℕ)) → IsArrayOf 32768 (IsQuad vs) q found → q ≡ None → ⊥
  no_quads found is none = no_array 32768 (IsQuad vs) q found is none

  primitives-unique : (x y : PrimitiveListing) → IsPrimitives vs t s q x → IsPrimitives vs t s q y → x ≡ y
  primitives-unique (triangle_list x) (triangle_list y) h k = ap triangle_list (array-unique 65536 (IsTriangle (length vs)) (triangle-unique (length vs)) t x y h.0 k.0)
  primitives-unique (triangle_list x) (triangle_strip y) h k = absurd (no_triangles x h.0 k.1)
  primitives-unique (triangle_list x) (quad_list y) h k = absurd (no_triangles x h.0 k.1)
  primitives-unique (triangle_strip x) (triangle_list y) h k = absurd (no_strip x h.0 k.1)
  primitives-unique (triangle_strip x) (triangle_strip y) h k = ap triangle_strip (array-unique 65538 (IsStripIndex (length vs)) (strip_index-unique (length vs)) s x y h.0 k.0)
  primitives-unique (triangle_strip x) (quad_list y) h k = absurd (no_strip x h.0 k.2)
  primitives-unique (quad_list x) (triangle_list y) h k = absurd (no_quads x h.0 k.2)
  primitives-unique (quad_list x) (triangle_strip y) h k = absurd (no_quads x h.0 k.2)
  primitives-unique (quad_list x) (quad_list y) h k = ap quad_list (array-unique 32768 (IsQuad vs) (quad-unique vs) q x y h.0 k.0)

-- ---- the draw

draw : State → List Vertex → PrimitiveListing → DrawListing
draw state vertices primitives = record { state = state; vertices = vertices; primitives = primitives }

made_same_draw : (s s' : State) (v v' : List Vertex) (p p' : PrimitiveListing) → s ≡ s' → v ≡ v' → p ≡ p' → draw s v p ≡ draw s' v' p'
made_same_draw s s' v v' p p' e f g = cc

same_draw : (x y : DrawListing) → x.state ≡ y.state → x.vertices ≡ y.vertices → x.primitives ≡ y.primitives → x ≡ y
unfolding draw
same_draw x y e f g = made_same_draw x.state y.state x.vertices y.vertices x.primitives y.primitives e f g

pub draw-unique : (picture : PixelBox) → IsUnique (IsDraw picture)
draw-unique picture value x y h k =
    let vertices = array-unique 65536 IsVertex vertex-unique (get (codes "vertices") value) x.vertices y.vertices h.vertices k.vertices in
    let named = subst (λ vs. IsPrimitives vs (get (codes "triangles") value) (get (codes "strip") value) (get (codes "quads") value) y.primitives) (sym vertices) k.primitives in
    same_draw x y (state-unique picture value _ _ h.state k.state) vertices (primitives-unique x.vertices _ _ _ x.primitives y.primitives h.primitives named)
