-- A list of JSON values, an element at a time.
use Rattle.std.proofs.Common.{◌≡◌, ℕ, ◌+◌, ◌<◌, ◌≤◌, List, [], ◌∷◌, ◌++◌, length, drop, get_or, Some, None, drop-cons, add-one, append_assoc, append-nil, refl, ap, sym, subst, ◌∙◌}
use Rattle.std.proofs.lemmas.List.{drop_all}
use Rattle.std.specs.Option.{option_or}
use Rattle.serde_json.specs.Data.{Data, item}
use Rattle.serde_json.specs.Events.{items_len}
use Rattle.serde_json.specs.View.{view, items_view}
use Rattle.serde_json.specs.declared.value.Value.{Value}
use Rattle.serde_json.proofs.Views.{items_len-items_view}
use Rattle.draw_list.specs.declared.fault.ReadKind.{ReadKind}
use Rattle.checks.specs.FirstFault.{first_fault}
use Rattle.list_json.specs.Checks.{KindChecks, each}
use Rattle.list_json.specs.Denotes.{Each}
use Rattle.checks.proofs.Faults.{first_fault_of_both}

pub items_len_view : (vs : List Value) → items_len (items_view vs) ≡ length vs
items_len_view vs = items_len-items_view vs

pub from_here : (vs : List Value) (i : ℕ) (v : Value) → i < length vs → v ≡ get_or vs i v → items_view (drop i vs) ≡ item (view v) (items_view (drop (i + 1) vs))
from_here vs i v lt is = rw (drop-cons vs i v lt, ← is, add-one) refl

-- the first fault from an element on
pub first_fault_here : (checks : Data → KindChecks) (vs : List Value) (i : ℕ) (v : Value) → i < length vs → v ≡ get_or vs i v
    → first_fault (each checks (items_view (drop i vs))) ≡ option_or (first_fault (checks (view v))) (first_fault (each checks (items_view (drop (i + 1) vs))))
first_fault_here checks vs i v lt is = ap (λ ds. first_fault (each checks ds)) (from_here vs i v lt is) ∙ first_fault_of_both (checks (view v)) _

-- what was read so far, followed by what the rest denotes
abbrev pub Continues : {X : Type 0} → (Data → X → Type 0) → List Value → ℕ → List X → Type 0
Continues {X} Is vs i found = (rest : List X) → Each Is (items_view (drop i vs)) rest → Each Is (items_view vs) (found ++ rest)

pub one_more : {X : Type 0} (Is : Data → X → Type 0) (vs : List Value) (i : ℕ) (v : Value) (found : List X) (x : X) → i < length vs → v ≡ get_or vs i v
    → Is (view v) x → Continues Is vs i found → Continues Is vs (i + 1) (found ++ x ∷ [])
one_more {X} Is vs i v found x lt is here so_far rest later =
    let P : List X → Type 0 = λ xs. Each Is (items_view vs) xs in
    let from : Each Is (items_view (drop i vs)) (x ∷ rest) = rw (from_here vs i v lt is) (here, later) in
    subst P (sym (append_assoc found (x ∷ []) rest)) (so_far (x ∷ rest) from)

-- no element before i fails: the first fault from i on is that of all
abbrev pub PassedTo : (Data → KindChecks) → List Value → ℕ → Type 0
PassedTo checks vs i = first_fault (each checks (items_view (drop i vs))) ≡ first_fault (each checks (items_view vs))

pub fails_here : (checks : Data → KindChecks) (vs : List Value) (i : ℕ) (v : Value) (k : ReadKind) → i < length vs → v ≡ get_or vs i v → PassedTo checks vs i
    → first_fault (checks (view v)) ≡ Some k → first_fault (each checks (items_view vs)) ≡ Some k
fails_here checks vs i v k lt is passed fault = sym passed ∙ (first_fault_here checks vs i v lt is ∙ ap (λ o. option_or o (first_fault (each checks (items_view (drop (i + 1) vs))))) fault)

pub passes_here : (checks : Data → KindChecks) (vs : List Value) (i : ℕ) (v : Value) → i < length vs → v ≡ get_or vs i v → PassedTo checks vs i
    → first_fault (checks (view v)) ≡ None → PassedTo checks vs (i + 1)
passes_here checks vs i v lt is passed none = sym (first_fault_here checks vs i v lt is ∙ ap (λ o. option_or o (first_fault (each checks (items_view (drop (i + 1) vs))))) none) ∙ passed

nothing_left : (vs : List Value) (i : ℕ) → length vs ≤ i → drop i vs ≡ []
nothing_left vs i past = drop_all i vs past

pub all_passed : (checks : Data → KindChecks) (vs : List Value) (i : ℕ) → length vs ≤ i → PassedTo checks vs i → first_fault (each checks (items_view vs)) ≡ None
all_passed checks vs i past passed = sym passed ∙ ap (λ xs. first_fault (each checks (items_view xs))) (nothing_left vs i past)

pub all_read : {X : Type 0} (Is : Data → X → Type 0) (vs : List Value) (i : ℕ) (found : List X) → length vs ≤ i → Continues Is vs i found → Each Is (items_view vs) found
all_read {X} Is vs i found past so_far =
    let P : List X → Type 0 = λ xs. Each Is (items_view vs) xs in
    let end : Each Is (items_view (drop i vs)) [] = rw (nothing_left vs i past) tt in
    subst P (append-nil found) (so_far [] end)
