-- The draws of a list, one at a time.
use Rattle.std.proofs.Common.{◌≡◌, ℕ, ◌+◌, ◌<◌, List, length, drop, get_or, Some, None, ap, sym, ◌∙◌}
use Rattle.std.specs.Option.{option_or, option_map}
use Rattle.serde_json.specs.View.{view, items_view}
use Rattle.serde_json.specs.declared.value.Value.{Value}
use Rattle.draw_list.specs.declared.fault.ReadKind.{ReadKind}
use Rattle.checks.specs.FirstFault.{first_fault, reported_as}
use Rattle.list_json.specs.Checks.{draw_value_checks, numbered_draw_checks, triangles_counted}
use Rattle.draw_list.specs.Fault.{fault_in_draw}
use Rattle.checking_reader.proofs.ArrayElements.{from_here}
use Rattle.checks.proofs.Faults.{first_fault_of_both, first_fault_reported_as}

-- no draw before i fails, and those draws have `earlier` triangles
abbrev pub DrawsPassed : List Value → ℕ → ℕ → Type 0
DrawsPassed vs i earlier = first_fault (numbered_draw_checks i earlier (items_view (drop i vs))) ≡ first_fault (numbered_draw_checks 0 0 (items_view vs))

abbrev triangles_of : Value → ℕ
triangles_of v = triangles_counted (view v)

fault_here : (vs : List Value) (i earlier : ℕ) (v : Value) → i < length vs → v ≡ get_or vs i v
    → first_fault (numbered_draw_checks i earlier (items_view (drop i vs)))
    ≡ option_or (option_map (fault_in_draw i) (first_fault (draw_value_checks earlier (view v)))) (first_fault (numbered_draw_checks (i + 1) (earlier + triangles_of v) (items_view (drop (i + 1) vs))))
fault_here vs i earlier v lt is =
    ap (λ ds. first_fault (numbered_draw_checks i earlier ds)) (from_here vs i v lt is)
    ∙ (first_fault_of_both (reported_as (fault_in_draw i) (draw_value_checks earlier (view v))) _
    ∙ ap (λ o. option_or o (first_fault (numbered_draw_checks (i + 1) (earlier + triangles_of v) (items_view (drop (i + 1) vs))))) (first_fault_reported_as (fault_in_draw i) (draw_value_checks earlier (view v))))

pub draw_fails : (vs : List Value) (i earlier : ℕ) (v : Value) (kind : ReadKind) → i < length vs → v ≡ get_or vs i v → DrawsPassed vs i earlier
    → first_fault (draw_value_checks earlier (view v)) ≡ Some kind → first_fault (numbered_draw_checks 0 0 (items_view vs)) ≡ Some (fault_in_draw i kind)
draw_fails vs i earlier v kind lt is passed fault =
    sym passed ∙ (fault_here vs i earlier v lt is
    ∙ ap (λ o. option_or (option_map (fault_in_draw i) o) (first_fault (numbered_draw_checks (i + 1) (earlier + triangles_of v) (items_view (drop (i + 1) vs))))) fault)

pub draw_passes : (vs : List Value) (i earlier : ℕ) (v : Value) → i < length vs → v ≡ get_or vs i v → DrawsPassed vs i earlier
    → first_fault (draw_value_checks earlier (view v)) ≡ None → DrawsPassed vs (i + 1) (earlier + triangles_of v)
draw_passes vs i earlier v lt is passed none =
    sym (fault_here vs i earlier v lt is
    ∙ ap (λ o. option_or (option_map (fault_in_draw i) o) (first_fault (numbered_draw_checks (i + 1) (earlier + triangles_of v) (items_view (drop (i + 1) vs))))) none) ∙ passed
