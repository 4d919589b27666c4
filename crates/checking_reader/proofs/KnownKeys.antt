-- The keys of an object, and those of a map that shows as it.
use Rattle.std.proofs.Common.{◌≡◌, ℕ, List, [], ◌∷◌, map, not, ◌||◌, bytes_eq, String, Global, Bor, string_bytes, refl, ap}
use Rattle.std.specs.List.{list_any}
use Rattle.std.specs.Map.{keys_of}
use Rattle.serde_json.specs.View.{members_view}
use Rattle.serde_json.specs.declared.value.Value.{Value}
use Rattle.list_json.specs.Json.{is_among, has_other_member}

among_texts : (names : List (Bor (List ℕ))) (key : List ℕ) → list_any (λ name. bytes_eq name.now key) names ≡ is_among (map (λ name. name.now) names) key
among_texts [] key = refl
among_texts (name ∷ names) key = ap (λ b. bytes_eq name.now key || b) (among_texts names key)

pub has_other_member-view : (names : List (Bor (List ℕ))) (es : List (String Global × Value))
    → list_any (λ key. not (list_any (λ name. bytes_eq name.now (string_bytes key)) names)) (keys_of es) ≡ has_other_member (map (λ name. name.now) names) (members_view es)
has_other_member-view names [] = refl
has_other_member-view names (e ∷ es) = rw (among_texts names (string_bytes e.0), has_other_member-view names es) refl
