-- Checks in a fixed order, and the first of them that fails.
use Rattle.std.specs.Prelude.{◌≡◌, List, [], ◌∷◌, ◌++◌, map, Bool, true, false, if◌then◌else◌, Option, Some, None}
use Rattle.std.specs.List.{AllByRecursion}

-- A check: whether it fails, and what it then reports.
pub record Check (T : Type 0) : Type 0 where
  pub fails : Bool
  pub reported : T

-- A check by whether it fails, and by what it then reports.
abbrev pub check : {T : Type 0} → Bool → T → Check T
check fails reported = record { fails = fails; reported = reported }

-- No check fails.
abbrev pub AllPass : {T : Type 0} → List (Check T) → Type 0
AllPass checks = AllByRecursion (λ p. p.fails ≡ false) checks

-- The error is what a failing check reports, and no check before it fails.
pub record IsFirstFault {T : Type 0} (checks : List (Check T)) (fault : T) : Type 0 where
  pub before : List (Check T)
  pub here : Check T
  pub after : List (Check T)
  pub order : checks ≡ before ++ here ∷ after
  pub passed : AllPass before
  pub fails : here.fails ≡ true
  pub reported : here.reported ≡ fault

-- The error of the first check that fails, as a function: what proofs compute with.
abbrev pub first_fault : {T : Type 0} → List (Check T) → Option T
first_fault [] = None
first_fault (p ∷ ps) = if p.fails then Some p.reported else first_fault ps

-- These checks, each of which reports what f makes of its report.
abbrev pub reported_as : {T U : Type 0} → (T → U) → List (Check T) → List (Check U)
reported_as f checks = map (λ p. check p.fails (f p.reported)) checks
