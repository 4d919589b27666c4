-- Checks in their order, and the first that fails. R is what a check reports: the kind of a draw list's error, the error itself, or the
-- status of a call.
use Rattle.std.specs.Prelude.{◌≡◌, ◌⊎◌, Result, MatchResult}

-- Checks, one after another: what has to hold, and what is reported if it does not. From `allocate` on allocations are made, and each
-- that fails is reported in place of what comes later.
pub data Checks (R : Type 0) : Type 1 where
  done : Checks R
  check : Type 0 → R → Checks R → Checks R
  allocate : R → Checks R → Checks R

-- The first checks, and then the later ones.
abbrev pub followed_by : {R : Type 0} → Checks R → Checks R → Checks R
followed_by done later = later
followed_by (check holds reported rest) later = check holds reported (followed_by rest later)
followed_by (allocate reported rest) later = allocate reported (followed_by rest later)

-- These checks, each of which reports what f makes of its report.
abbrev pub reported_as : {R S : Type 0} → (R → S) → Checks R → Checks S
reported_as f done = done
reported_as f (check holds reported rest) = check holds (f reported) (reported_as f rest)
reported_as f (allocate reported rest) = allocate (f reported) (reported_as f rest)

-- Each check holds.
abbrev pub Pass : {R : Type 0} → Checks R → Type 0
Pass done = Unit {0}
Pass (check holds reported rest) = holds × Pass rest
Pass (allocate reported rest) = Pass rest

-- The first check that does not hold reports this, or an allocation that fails before it.
abbrev pub FirstIs : {R : Type 0} → Checks R → R → Type 0
FirstIs done fault = ⊥
FirstIs (check holds reported rest) fault = ((holds → ⊥) × (reported ≡ fault)) ⊎ (holds × FirstIs rest fault)
FirstIs (allocate reported rest) fault = (reported ≡ fault) ⊎ FirstIs rest fault

-- The result is right: each check holds, and so does P of what was found, or what the first failure reports is the error.
abbrev pub IsJudged : {X R : Type 0} → Checks R → (X → Type 0) → Result X R → Type 0
IsJudged checks P result = MatchResult result (λ x. Pass checks × P x) (FirstIs checks)
