-- Where the vertices of a draw lie, as they are written and as they are read.
use Rattle.std.proofs.Common.{◌≡◌, refl, ℕ, ℤ, pos, List, [], ◌∷◌, map, Option, Some}
use Rattle.std.specs.Prelude.{unwrap_or}
use Rattle.serde_json.specs.Data.{Data, Items, no_items, item}
use Rattle.draw_list.specs.declared.draw.Vertex.{Vertex}
use Rattle.draw_list.specs.Primitives.{vertex_position}
use Rattle.list_json.specs.Checks.{position_written, positions_written, corner_written}
use Rattle.list_json.specs.Denotes.{Each, IsVertex, IsIndex}
use Rattle.list_json.proofs.OneDraw.{same_position}

number_written : (o : Option ℤ) (z : ℤ) → o ≡ Some z → unwrap_or o (pos 0) ≡ z
number_written o z e = rw e refl

same_place : (d : Data) (v : Vertex) → IsVertex d v → position_written d ≡ v.at
same_place d v is = same_position (position_written d) v.at (number_written _ _ is.x.0) (number_written _ _ is.y.0)

pub same_places : (ds : Items) (vs : List Vertex) → Each IsVertex ds vs → positions_written ds ≡ map (λ v. v.at) vs
same_places no_items [] h = refl
same_places no_items (v ∷ vs) h = absurd h
same_places (item d ds) [] h = absurd h
same_places (item d ds) (v ∷ vs) h = rw (same_place d v h.0, same_places ds vs h.1) refl

-- the corner that an index is written to name is that of the index
pub same_corner : (vs : List Vertex) (n : ℕ) (value : Option Data) (k : ℕ) → IsIndex n value k → corner_written (map (λ v. v.at) vs) value ≡ vertex_position vs k
same_corner vs n value k is = rw is.0 refl
