-- Triangles that are fetched together, one after another.
use Rattle.std.proofs.Common.{◌≡◌, inl, inr, sym, ap, ◌∙◌, ℕ, ◌+◌, ◌-◌, ◌<◌, ◌≤◌, List, length, set, slice_get, slice_index, Some, arith}
use Rattle.std.proofs.lemmas.Bool.{cases_lt}
use Rattle.std.proofs.lemmas.List.{length-set, get_or-set_same, get_or-set_other}
use Rattle.std.proofs.lemmas.Option.{slice_get-get_or}
use Rattle.shade.specs.declared.placed.Placed.{Placed}
use Rattle.draw_list.specs.Scene.{Scene}
use Rattle.bins.specs.Fetched.{AreFetched}
use Rattle.bins.specs.declared.fetched.Fetched.{Fetched}

-- The first places have been fetched.
abbrev pub HaveFetched : Scene → List ℕ → ℕ → ℕ → List Placed → Type 0
HaveFetched l numbers first place triangles = (k : ℕ) → k < place → slice_get triangles k ≡ slice_get l.triangles (slice_index numbers (first + k))

pub fetched_more : (l : Scene) (numbers : List ℕ) (first place : ℕ) (triangles : List Placed) (t : Placed) → HaveFetched l numbers first place triangles → place < length triangles
    → slice_get l.triangles (slice_index numbers (first + place)) ≡ Some t → HaveFetched l numbers first (place + 1) (set triangles place t)
fetched_more l numbers first place triangles t have inside found k below =
    let long = length-set triangles place t in
    elim (cases_lt k place) [
      | inl less ↦ slice_get-get_or (set triangles place t) k t (omega (arith, long)) ∙ ap Some (get_or-set_other triangles place k t t (omega arith)) ∙ sym (slice_get-get_or triangles k t (omega arith)) ∙ have k less
      | inr more ↦ (
          let last : k ≡ place = omega arith in
          rw last (slice_get-get_or (set triangles place t) place t (omega (arith, long)) ∙ ap Some (get_or-set_same triangles place t t inside) ∙ sym found)
          )
    ]

-- the triangle whose number stands at a place that has been fetched
pub fetched_at : (l : Scene) (numbers : List ℕ) (place : ℕ) (held : Fetched) → AreFetched l numbers held.first held.triangles → held.first ≤ place → place - held.first < length held.triangles → place < length numbers
    → slice_get held.triangles (place - held.first) ≡ slice_get l.triangles (slice_index numbers place)
fetched_at l numbers place held are from room inside =
    let there : held.first + (place - held.first) ≡ place = omega arith in
    let read = are (place - held.first) room (omega arith) in
    rw there at read
