-- A string that is none of the words.
use Rattle.std.proofs.Common.{◌≡◌, ℕ, List, [], ◌∷◌, Bool, true, false, bytes_eq, sym}
use Rattle.std.specs.List.{AllByRecursion}
use Rattle.std.proofs.lemmas.Slice.Eq.{bytes_eq-Decides}
use Rattle.list_json.specs.Json.{is_among}

decided : (b : Bool) (P : Type 0) → (b ≡ true → P) → (P → ⊥) → b ≡ false
decided true P holds not = absurd (not (holds (cc)))
decided false P holds not = cc

bytes_eq-other : (word t : List ℕ) → (t ≡ word → ⊥) → bytes_eq word t ≡ false
bytes_eq-other word t other = decided (bytes_eq word t) (word ≡ t) (bytes_eq-Decides word t).0 (λ e. other (sym e))

pub is_among-none : (words : List (List ℕ)) (t : List ℕ) → AllByRecursion (λ word. t ≡ word → ⊥) words → is_among words t ≡ false
is_among-none [] t h = cc
is_among-none (word ∷ words) t h = rw (bytes_eq-other word t h.0) (is_among-none words t h.1)
