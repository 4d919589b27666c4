-- Which checks have passed when the reading of a draw begins.
use Rattle.std.proofs.Common.{◌≡◌, ℕ, ◌+◌, ◌<◌, ◌≤◌, nat_lt, List, [], ◌∷◌, ◌++◌, length, drop, get_or, false, Some, None, codes, arith, sym, ap, ◌∙◌}
use Rattle.std.proofs.lemmas.Bool.Decides.{nat_tests}
use Rattle.serde_json.specs.Data.{Data, Items, no_items, item}
use Rattle.serde_json.specs.Find.{get}
use Rattle.serde_json.specs.View.{view, items_view}
use Rattle.serde_json.specs.declared.value.Value.{Value}
use Rattle.serde_json.proofs.Views.{get_item_within}
use Rattle.draw_list.specs.declared.fault.ReadKind.{ReadKind}
use Rattle.draw_list.specs.declared.fault.ReadKind.TheVariants.{OutOfMemory}
use Rattle.draw_list.specs.declared.fault.ReadFault.{ReadFault}
use Rattle.list_json.specs.Json.{elements}
use Rattle.checks.specs.FirstFault.{Check, first_fault, reported_as}
use Rattle.list_json.specs.Checks.{PassesBefore}
use Rattle.list_json.specs.Checks.{draw_value_checks, checks_before_vertices, numbered_draw_checks, triangles_counted, top_checks, IsDrawReached, Reaches}
use Rattle.draw_list.specs.Fault.{fault_in_draw}
use Rattle.checking_reader.proofs.ArrayElements.{from_here}
use Rattle.checks.proofs.Faults.{passed_here, all_pass}

pub both_before : (n : ℕ) (ps qs : List (Check ReadFault)) → PassesBefore n ps → PassesBefore n qs → PassesBefore n (ps ++ qs)
both_before n [] qs p q = q
both_before n (x ∷ ps) qs p q = (p.0, both_before n ps qs p.1 q)

pub passed_before : (n : ℕ) (f : ReadKind → ReadFault) (ps : List (Check ReadKind)) → first_fault ps ≡ None → PassesBefore n (reported_as f ps)
passed_before n f [] none = tt
passed_before n f (p ∷ ps) none = let both = passed_here p.fails p.reported (first_fault ps) none in ((λ before. both.0), passed_before n f ps both.1)

not_below : (m n : ℕ) → n ≤ m → nat_lt m n ≡ false
not_below m n h = grind (arith, nat_tests)

reported_from : (n number : ℕ) (ps : List (Check ReadKind)) → n ≤ number → PassesBefore n (reported_as (fault_in_draw number) ps)
reported_from n number [] h = tt
reported_from n number (p ∷ ps) h = ((λ before. let at = not_below number n h in absurd (cc)), reported_from n number ps h)

-- the draws from n on have no check before draw n
pub draws_from : (n number earlier : ℕ) (ds : Items) → n ≤ number → PassesBefore n (numbered_draw_checks number earlier ds)
draws_from n number earlier no_items h = tt
draws_from n number earlier (item d ds) h =
    both_before n (reported_as (fault_in_draw number) (draw_value_checks earlier d)) _ (reported_from n number (draw_value_checks earlier d) h) (draws_from n (number + 1) _ ds (omega arith))

-- the draws before i have passed
abbrev pub AllPassedTo : List Value → ℕ → ℕ → Type 0
AllPassedTo vs i earlier = (n : ℕ) → PassesBefore n (numbered_draw_checks i earlier (items_view (drop i vs))) → PassesBefore n (numbered_draw_checks 0 0 (items_view vs))

pub one_more_passed : (vs : List Value) (i earlier : ℕ) (v : Value) → i < length vs → v ≡ get_or vs i v → AllPassedTo vs i earlier
    → first_fault (draw_value_checks earlier (view v)) ≡ None → AllPassedTo vs (i + 1) (earlier + triangles_counted (view v))
one_more_passed vs i earlier v lt is before none n rest =
    before n (rw (from_here vs i v lt is) (both_before n (reported_as (fault_in_draw i) (draw_value_checks earlier (view v))) _ (passed_before n (fault_in_draw i) (draw_value_checks earlier (view v)) none) rest))

-- the reading reached draw i
pub reached_draw : (vs : List Value) (i earlier : ℕ) (v : Value) (kind : ReadKind) → i < length vs → v ≡ get_or vs i v → AllPassedTo vs i earlier
    → (kind ≡ OutOfMemory → first_fault (checks_before_vertices (view v)) ≡ None) → IsDrawReached (items_view vs) kind i
reached_draw vs i earlier v kind lt is before memory = record {
  draw = view v;
  there = sym (get_item_within vs i v lt) ∙ ap (λ w. Some (view w)) (sym is);
  before = before i (draws_from i i earlier (items_view (drop i vs)) (omega arith));
  memory = λ e. all_pass (checks_before_vertices (view v)) (memory e);
}

-- if the top object passes, what was reached among its draws is reached in the value
pub reaches : (d : Data) (vs : List Value) (fault : ReadFault) → items_view vs ≡ elements (get (codes "draws") d) → first_fault (top_checks d) ≡ None
    → ((n : ℕ) × (fault.draw ≡ Some n) × IsDrawReached (items_view vs) fault.kind n) → Reaches (Some d) fault
reaches d vs fault is top h = rw h.1 (all_pass (top_checks d) top, rw is at h.2)
