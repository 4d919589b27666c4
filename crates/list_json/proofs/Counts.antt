-- How many elements an array has.
use Rattle.std.proofs.Common.{◌≡◌, List, [], ◌∷◌, length, Option, refl, arith}
use Rattle.serde_json.specs.Data.{Data, Items, no_items, item}
use Rattle.serde_json.specs.Events.{items_len}
use Rattle.draw_list.specs.Primitives.{PrimitiveListing, triangle_list, triangle_strip, quad_list, count_of_triangles}
use Rattle.list_json.specs.Json.{elements}
use Rattle.list_json.specs.Checks.{triangles_given}
use Rattle.list_json.specs.Denotes.{Each, IsTriangle, IsStripIndex, IsQuad, IsPrimitives}
use Rattle.draw_list.specs.declared.draw.Vertex.{Vertex}

pub items_len_each : {X : Type 0} (Is : Data → X → Type 0) (ds : Items) (xs : List X) → Each Is ds xs → items_len ds ≡ length xs
items_len_each Is no_items [] h = refl
items_len_each Is no_items (x ∷ xs) h = absurd h
items_len_each Is (item d ds) [] h = absurd h
items_len_each Is (item d ds) (x ∷ xs) h = rw (items_len_each Is ds xs h.1) refl

-- the count of the triangles that were given is that of the primitives
pub given_is : (vs : List Vertex) (t s q : Option Data) (p : PrimitiveListing) → IsPrimitives vs t s q p → triangles_given t s q ≡ count_of_triangles p
given_is vs t s q (triangle_list found) is = rw (is.1, is.2) (omega (arith, items_len_each (IsTriangle (length vs)) (elements t) found is.0.parts))
given_is vs t s q (triangle_strip found) is = rw (is.1, is.2) (omega (arith, items_len_each (IsStripIndex (length vs)) (elements s) found is.0.parts))
given_is vs t s q (quad_list found) is = rw (is.1, is.2) (omega (arith, items_len_each (IsQuad vs) (elements q) found is.0.parts))
