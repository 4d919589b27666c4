-- The first fault of checks that stand one after another.
use Rattle.std.proofs.Common.{◌≡◌, cond, List, [], ◌∷◌, ◌++◌, Bool, true, false, Option, Some, None, option_map, refl, sym, ap, ◌∙◌}
use Rattle.std.specs.Option.{option_or}
use Rattle.checks.specs.FirstFault.{Check, AllPass, first_fault, reported_as}

pub first_fault_of_both : {T : Type 0} (ps qs : List (Check T)) → first_fault (ps ++ qs) ≡ option_or (first_fault ps) (first_fault qs)
first_fault_of_both [] qs = refl
first_fault_of_both (p ∷ ps) qs = elim p.fails as (λ b. (cond b (Some p.reported) (first_fault (ps ++ qs))) ≡ option_or (cond b (Some p.reported) (first_fault ps)) (first_fault qs)) [
  | true ↦ refl
  | false ↦ first_fault_of_both ps qs
]

pub first_fault_reported_as : {T U : Type 0} (f : T → U) (ps : List (Check T)) → first_fault (reported_as f ps) ≡ option_map f (first_fault ps)
first_fault_reported_as f [] = refl
first_fault_reported_as f (p ∷ ps) = elim p.fails as (λ b. (cond b (Some (f p.reported)) (first_fault (reported_as f ps))) ≡ option_map f (cond b (Some p.reported) (first_fault ps))) [
  | true ↦ refl
  | false ↦ first_fault_reported_as f ps
]

-- the first of these checks passes, and the rest do
pub passed_here : {T : Type 0} (b : Bool) (reported : T) (rest : Option T) → cond b (Some reported) rest ≡ None → (b ≡ false) × (rest ≡ None)
passed_here true reported rest none = absurd (cc)
passed_here false reported rest none = (refl, none)

-- no check fails if there is no first fault
pub all_pass : {T : Type 0} (ps : List (Check T)) → first_fault ps ≡ None → AllPass ps
all_pass [] none = tt
all_pass (p ∷ ps) none = let both = passed_here p.fails p.reported (first_fault ps) none in (both.0, all_pass ps both.1)

pub both_pass : {T : Type 0} (ps qs : List (Check T)) → first_fault ps ≡ None → first_fault qs ≡ None → first_fault (ps ++ qs) ≡ None
both_pass ps qs p q = first_fault_of_both ps qs ∙ (ap (λ o. option_or o (first_fault qs)) p ∙ q)

neither : {T : Type 0} (o p : Option T) → option_or o p ≡ None → (o ≡ None) × (p ≡ None)
neither None p none = (refl, none)
neither (Some x) p none = absurd (cc)

pub both_passed : {T : Type 0} (ps qs : List (Check T)) → first_fault (ps ++ qs) ≡ None → (first_fault ps ≡ None) × (first_fault qs ≡ None)
both_passed ps qs none = neither (first_fault ps) (first_fault qs) (sym (first_fault_of_both ps qs) ∙ none)
